use Rattle.std.proofs.Common.{None, subst}
use Rattle.indexmap.specs.IndexMap.{IsUnique, UpdatesBy}
use Rattle.expiry_policy.proofs.Lookups.{derived_is}
use Rattle.cabinet.proofs.Lookups.{held_apart, held_updated}
use Rattle.cabinet.proofs.held.drop_of.Goals as goal

pub returns-clause-once : goal.returns-clause-once
returns-clause-once c = held_apart c.swap_remove-dropped.new.self.entries (subst (λ eq. IsUnique eq c.swap_remove-dropped.new.self) derived_is c.swap_remove-dropped.ensures.unique)

pub returns-clause-held : goal.returns-clause-held
returns-clause-held c = λ m.
    let held = c.args.held.now in
    let k = c.args.meta.now in
    let later = subst (λ eq. UpdatesBy eq (eq k) held c.swap_remove-dropped.new.self None) derived_is c.swap_remove-dropped.ensures.updates in
    held_updated m k held.entries c.swap_remove-dropped.new.self.entries None (later.0 m)
