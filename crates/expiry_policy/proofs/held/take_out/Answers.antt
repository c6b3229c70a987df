use Rattle.std.proofs.Common.{◌≡◌, Some, None, cond, subst, sym, ap, ◌∙◌, arith, slice_get}
use Rattle.indexmap.specs.IndexMap.{Updates}
use Rattle.metatile_plan.specs.Keys.{same_meta}
use Rattle.expiry_policy.specs.declared.uses.Use.{Use}
use Rattle.expiry_policy.specs.Entries.{use_at, uses_of}
use Rattle.expiry_policy.specs.Layers.{use_in}
use Rattle.expiry_policy.proofs.Lookups.{derived_is, use_at-entry, use_at-swap_remove, use_in-updated}
use Rattle.expiry_policy.proofs.held.take_out.Goals as goal

pub returns-clause-others : goal.returns-clause-others
returns-clause-others c = λ i lt n.
    let es = c.args.held.now.entries in
    let is = rw c.unwrap-taken.ensures at c.swap_remove_index.ensures.entries in
    let size = rw c.unwrap-taken.ensures at c.swap_remove_index.ensures.len in
    ap (λ es. use_at es i) is ∙ use_at-swap_remove es c.args.at i _ (omega arith) n

pub returns-clause-uses : goal.returns-clause-uses
returns-clause-uses c = λ m.
    let held = c.args.held.now in
    let p = c.unwrap-taken.result in
    let later = subst (λ eq. Updates eq held c.swap_remove_index.new.self p.0 None) derived_is (rw c.unwrap-taken.ensures at c.swap_remove_index.ensures.updates) in
    let each = use_in-updated m p.0 held.entries c.swap_remove_index.new.self.entries None (later.0 m) in
    let entry : slice_get held.entries c.args.at ≡ Some p = sym c.swap_remove_index.ensures.entry ∙ c.unwrap-taken.ensures in
    let key = ap (λ (u : Use). u.meta) (use_at-entry held.entries c.args.at p entry) in
    subst (λ k. use_in (uses_of c.swap_remove_index.new.self.entries) m ≡ cond (same_meta m k) None (use_in (uses_of held.entries) m)) (sym key) each
