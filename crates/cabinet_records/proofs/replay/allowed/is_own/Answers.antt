use Rattle.std.proofs.Common.{refl, sym, subst, ◌∙◌}
use Rattle.std.specs.Prelude.{IsSome}
use Rattle.cabinet_records.specs.Placed.{place_in}
use Rattle.cabinet.specs.Shelved.{listed}
use Rattle.cabinet_records.proofs.Allowing.{own_is, own_none, own_other}
use Rattle.cabinet_records.proofs.replay.allowed.is_own.Goals as goal

pub returns-in-None : goal.returns-in-None
returns-in-None c =
    let p = c.args.progress.now in
    (λ _. own_none (place_in p.places.entries) c.requires.0 c.args.number c.args.meta.now (listed p.store.blobs) c.requires.1.placed (sym c.place_of.ensures ∙ c.in-None.is), λ _. refl)

pub returns-in-None-kept_of : goal.returns-in-None-kept_of
returns-in-None-kept_of c =
    let p = c.args.progress.now in
    let some : IsSome (place_in p.places.entries c.args.number) = subst IsSome (sym (sym c.place_of.ensures ∙ c.in-Some.is)) refl in
    (λ e. absurd (cc), λ off. absurd (own_other (place_in p.places.entries) c.requires.0 c.args.number c.args.meta.now (listed p.store.blobs) c.requires.1.placed some (sym c.kept_of.ensures ∙ c.in-None-kept_of.is) off))

pub returns-in-Some-kept_of : goal.returns-in-Some-kept_of
returns-in-Some-kept_of c =
    let p = c.args.progress.now in
    let some : IsSome (place_in p.places.entries c.args.number) = subst IsSome (sym (sym c.place_of.ensures ∙ c.in-Some.is)) refl in
    own_is (place_in p.places.entries) c.requires.0 c.args.number c.args.meta.now c.in-Some-kept_of.kept (listed p.store.blobs) c.requires.1.once c.requires.1.placed some (sym c.kept_of.ensures ∙ c.in-Some-kept_of.is)
