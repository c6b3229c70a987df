use Rattle.std.proofs.Common.{◌≡◌, Some, find, length, map, slice_get, ap, subst, arith}
use Rattle.std.proofs.lemmas.List.{length-map}
use Rattle.cabinet.specs.History.{is_of}
use Rattle.cabinet.specs.Ordered.{as_kept, held_of, in_order, order_of}
use Rattle.cabinet.specs.Shelved.{Stored}
use Rattle.cabinet.proofs.Told.{told_kept}
use Rattle.cabinet.proofs.store.Store.kept_at.Goals as goal

pub kept_at-requires : goal.kept_at-requires
kept_at-requires c =
    let i = c.self.inside in
    omega (arith, length-map i.held.entries as_kept, c.requires, ap (λ (v : Stored). length v.held) c.self.view_is)

pub returns-clause-at : goal.returns-clause-at
returns-clause-at c =
    let e = c.kept_at.ensures in
    (e.0, e.1, subst (λ (v : Stored). slice_get v.held c.args.index ≡ Some e.0) c.self.view_is e.2)

pub returns-clause-kept : goal.returns-clause-kept
returns-clause-kept c =
    let i = c.self.inside in
    let e = c.kept_at.ensures in
    subst (λ (v : Stored). find (is_of c.kept_at.result.meta) (map (λ b. b.kept) v.blobs) ≡ Some c.kept_at.result) c.self.view_is
    (told_kept (in_order (order_of i.puts.entries) (held_of i.held.entries)) (held_of i.held.entries) c.kept_at.result e.0 c.self.invariant.order e.1 e.3)
