use Rattle.std.proofs.Common.{◌≡◌, Some, ap, subst, sym, ◌∙◌, slice_get}
use Rattle.std.specs.Option.{option_map}
use Rattle.indexmap.specs.IndexMap.{get}
use Rattle.expiry_policy.proofs.Lookups.{derived_is}
use Rattle.cabinet.specs.declared.kept.Blob.{Blob}
use Rattle.cabinet.specs.Ordered.{as_kept}
use Rattle.cabinet.proofs.Lookups.{held_get, held_lookup}
use Rattle.cabinet.proofs.held.kept_at.Goals as goal

pub returns : goal.returns
returns c =
    let held = c.args.held.now in
    let m = c.unwrap.result.0.now in
    let w = c.unwrap.result.1.now in
    let entry : slice_get held.entries c.args.at ≡ Some (m, w) = rw c.unwrap.ensures at (sym c.get_index.ensures.entry) in
    let found = rw c.unwrap.ensures at c.get_index.ensures.value in (
      as_kept (m, w),
      c.kept_in.ensures,
      held_get held.entries c.args.at (m, w) entry,
      held_lookup m held.entries ∙ ap (option_map (λ (b : Blob). as_kept (m, b))) (subst (λ eq. get eq held m ≡ Some w) derived_is found),
    )
