use Rattle.std.proofs.Common.{◌≡◌, Some, length, length-append, [], ◌∷◌, ◌++◌, subst, ap, ◌∙◌}
use Rattle.indexmap.specs.IndexMap.{Updates, insert_entry}
use Rattle.indexmap.proofs.CallerLemmas.{insert_entry-new}
use Rattle.metatile_plan.specs.Keys.{same_meta}
use Rattle.expiry_policy.specs.declared.held.UseTally.{UseTally}
use Rattle.expiry_policy.specs.Entries.{use_at}
use Rattle.expiry_policy.proofs.Lookups.{absent_lookup, derived_is, use_at-push, use_in-updated}
use Rattle.expiry_policy.proofs.held.add.Goals as goal

-- the entries are those before and the new one
added : (c : goal.After-unwrap) → c.insert.new.self.entries ≡ c.args.held.now.entries ++ (c.args.entry.now.meta, record { uses = c.args.entry.now.uses; saved = c.args.entry.now.saved; last = c.args.entry.now.last }) ∷ []
added c =
    let held = c.args.held.now in
    let m = c.args.entry.now.meta in
    let w : UseTally = record { uses = c.args.entry.now.uses; saved = c.args.entry.now.saved; last = c.args.entry.now.last } in
    let at_key = rw c.unwrap.ensures at c.insert.ensures.entries in
    subst (λ eq. c.insert.new.self.entries ≡ insert_entry eq held.entries m w) derived_is at_key ∙ insert_entry-new same_meta held m w (absent_lookup m held.entries c.requires.absent)

pub returns-clause-size : goal.returns-clause-size
returns-clause-size c = ap length (added c) ∙ length-append c.args.held.now.entries _

pub returns-clause-others : goal.returns-clause-others
returns-clause-others c = λ i h. ap (λ es. use_at es i) (added c) ∙ use_at-push c.args.held.now.entries _ i h

pub returns-clause-uses : goal.returns-clause-uses
returns-clause-uses c = λ m.
    let held = c.args.held.now in
    let k = c.args.entry.now.meta in
    let w : UseTally = record { uses = c.args.entry.now.uses; saved = c.args.entry.now.saved; last = c.args.entry.now.last } in
    let later = subst (λ eq. Updates eq held c.insert.new.self k (Some w)) derived_is (rw c.unwrap.ensures at c.insert.ensures.updates) in
    use_in-updated m k held.entries c.insert.new.self.entries (Some w) (later.0 m)
