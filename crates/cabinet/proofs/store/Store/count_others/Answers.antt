use Rattle.std.proofs.Common.{ap, refl, sym, subst, ◌∙◌, arith}
use Rattle.std.specs.Prelude.{IsSome, option_copied}
use Rattle.std.specs.Option.{option_map}
use Rattle.cabinet.specs.declared.kept.Blob.{Blob}
use Rattle.cabinet.specs.Ordered.{as_kept}
use Rattle.cabinet.proofs.Told.{others_of_none, others_of_some}
use Rattle.cabinet.proofs.store.Store.count_others.Goals as goal

pub returns-in-Some : goal.returns-in-Some
returns-in-Some c =
    let m = c.args.meta.now in
    let some = subst IsSome c.get.ensures (subst (λ o. IsSome (option_map (λ (b : Blob). as_kept (m, b)) (option_copied o))) (sym c.in-Some.is) refl) in
    omega (arith, c.count-count.ensures.count, others_of_some m c.args.self.now.blobs c.count-count.ensures.once some)

pub returns-in-None : goal.returns-in-None
returns-in-None c =
    let m = c.args.meta.now in
    let e = sym c.get.ensures ∙ ap (λ o. option_map (λ (b : Blob). as_kept (m, b)) (option_copied o)) c.in-None.is in
    c.count-count.ensures.count ∙ sym (others_of_none m c.args.self.now.blobs e)
