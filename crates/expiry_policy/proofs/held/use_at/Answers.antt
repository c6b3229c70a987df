use Rattle.std.proofs.Common.{Some, sym, subst, ◌∙◌, ◌≡◌, slice_get}
use Rattle.indexmap.specs.IndexMap.{get}
use Rattle.expiry_policy.proofs.Lookups.{derived_is, found_use, use_at-entry}
use Rattle.expiry_policy.proofs.held.use_at.Goals as goal

pub returns-clause-value : goal.returns-clause-value
returns-clause-value c =
    let held = c.args.held.now in
    let at = c.args.at in
    let entry : slice_get held.entries at ≡ Some (c.unwrap.result.0.now, c.unwrap.result.1.now) = rw c.unwrap.ensures at (sym c.get_index.ensures.entry) in
    c.use_of.ensures ∙ sym (use_at-entry held.entries at _ entry)

pub returns-clause-found : goal.returns-clause-found
returns-clause-found c =
    let held = c.args.held.now in
    let found = rw c.unwrap.ensures at c.get_index.ensures.value in
    rw c.use_of.ensures (found_use c.unwrap.result.0.now c.unwrap.result.1.now held.entries (subst (λ eq. get eq held c.unwrap.result.0.now ≡ Some c.unwrap.result.1.now) derived_is found))
