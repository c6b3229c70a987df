use Rattle.std.proofs.Common.{ap, sym, Some, ◌∙◌}
use Rattle.std.specs.Prelude.{option_copied}
use Rattle.std.specs.Option.{option_map}
use Rattle.cabinet.specs.declared.kept.Blob.{Blob}
use Rattle.cabinet.specs.declared.kept.KeptBlob.{KeptBlob}
use Rattle.cabinet.specs.History.{is_of}
use Rattle.cabinet.specs.Ordered.{as_kept}
use Rattle.cabinet.proofs.Lists.{find_map}
use Rattle.cabinet.proofs.store.Store.kept_of.Goals as goal

pub returns-in-Some : goal.returns-in-Some
returns-in-Some c =
    let m = c.args.meta.now in
    let e = sym c.get.ensures ∙ ap (λ o. option_map (λ (b : Blob). as_kept (m, b)) (option_copied o)) c.in-Some.is in
    ap Some c.kept_in.ensures ∙ sym (find_map (λ (b : KeptBlob). b.kept) (is_of m) c.args.self.now.blobs ∙ ap (option_map (λ (b : KeptBlob). b.kept)) e)

pub returns-in-None : goal.returns-in-None
returns-in-None c =
    let m = c.args.meta.now in
    let e = sym c.get.ensures ∙ ap (λ o. option_map (λ (b : Blob). as_kept (m, b)) (option_copied o)) c.in-None.is in
    sym (find_map (λ (b : KeptBlob). b.kept) (is_of m) c.args.self.now.blobs ∙ ap (option_map (λ (b : KeptBlob). b.kept)) e)
