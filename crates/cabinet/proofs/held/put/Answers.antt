use Rattle.std.proofs.Common.{◌≡◌, Some, ap, subst, ◌∙◌}
use Rattle.std.specs.Prelude.{is_some}
use Rattle.std.specs.Map.{lookup}
use Rattle.indexmap.specs.IndexMap.{IsUnique, Updates}
use Rattle.expiry_policy.proofs.Lookups.{derived_is}
use Rattle.cabinet.specs.declared.kept.Blob.{Blob}
use Rattle.cabinet.proofs.Lookups.{held_apart, held_updated, some_held}
use Rattle.cabinet.proofs.held.put.Goals as goal

pub returns-clause-once : goal.returns-clause-once
returns-clause-once c = held_apart c.insert.new.self.entries (subst (λ eq. IsUnique eq c.insert.new.self) derived_is c.insert.ensures.unique)

pub returns-clause-held : goal.returns-clause-held
returns-clause-held c = λ m.
    let held = c.args.held.now in
    let k = c.args.kept.meta in
    let w : Blob = record { number = c.args.kept.number; place = c.args.kept.place; length = c.args.kept.length; moment = c.args.kept.moment; uses = c.args.kept.uses; text = c.args.text } in
    let later = subst (λ eq. Updates eq held c.insert.new.self k (Some w)) derived_is (rw c.unwrap-older.ensures at c.insert.ensures.updates) in
    held_updated m k held.entries c.insert.new.self.entries (Some w) (later.0 m)

pub returns-clause-older : goal.returns-clause-older
returns-clause-older c =
    let es = c.args.held.now.entries in
    let k = c.args.kept.meta in
    let was = subst (λ eq. c.unwrap-older.result ≡ lookup (eq k) es) derived_is (rw c.unwrap-older.ensures at c.insert.ensures.old) in
    c.is_some.ensures ∙ ap is_some was ∙ some_held k es
