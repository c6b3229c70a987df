use Rattle.std.proofs.Common.{◌≡◌, cond, Some, subst}
use Rattle.indexmap.specs.IndexMap.{IsUnique, set_value_at}
use Rattle.indexmap.proofs.CallerLemmas.{index_map_len-with_value_at, updates-with_value_at}
use Rattle.metatile_plan.specs.Keys.{same_meta}
use Rattle.expiry_policy.specs.declared.held.UseTally.{UseTally}
use Rattle.expiry_policy.specs.Entries.{as_use, use_at, uses_of}
use Rattle.expiry_policy.specs.Layers.{use_in}
use Rattle.expiry_policy.proofs.Lookups.{derived_is, entry_at_use, same_meta_laws, use_at-set_value, use_in-updated}
use Rattle.expiry_policy.proofs.held.change.Goals as goal

pub returns-clause-size : goal.returns-clause-size
returns-clause-size c =
    let w : UseTally = record { uses = c.args.entry.now.uses; saved = c.args.entry.now.saved; last = c.args.entry.now.last } in
    index_map_len-with_value_at c.args.held.now c.args.at w

pub returns-clause-others : goal.returns-clause-others
returns-clause-others c = λ i n.
    let w : UseTally = record { uses = c.args.entry.now.uses; saved = c.args.entry.now.saved; last = c.args.entry.now.last } in
    use_at-set_value c.args.held.now.entries c.args.at i w n

pub returns-clause-uses : goal.returns-clause-uses
returns-clause-uses c = λ m.
    let held = c.args.held.now in
    let w : UseTally = record { uses = c.args.entry.now.uses; saved = c.args.entry.now.saved; last = c.args.entry.now.last } in
    let old = entry_at_use held.entries c.args.at c.requires.within in
    let unique = subst (λ eq. IsUnique eq held) derived_is c.len-count.ensures.unique in
    let later = updates-with_value_at held c.args.at w same_meta_laws unique (use_at held.entries c.args.at).meta old.0 old.1 in
    let each = use_in-updated m (use_at held.entries c.args.at).meta held.entries (set_value_at held.entries c.args.at w) (Some w) (later.0 m) in
    subst (λ k. use_in (uses_of (set_value_at held.entries c.args.at w)) m ≡ cond (same_meta m k) (Some (as_use (k, w))) (use_in (uses_of held.entries) m)) c.requires.meta each
