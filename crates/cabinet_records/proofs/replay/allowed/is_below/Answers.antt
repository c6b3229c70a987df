use Rattle.std.proofs.Common.{◌<◌, refl, sym, ◌∙◌, arith}
use Rattle.std.proofs.lemmas.Bool.Decides.{nat_tests}
use Rattle.cabinet.specs.declared.kept.Kept.{Kept}
use Rattle.cabinet_records.proofs.Allowing.{none_least, some_least}
use Rattle.cabinet_records.proofs.replay.allowed.is_below.Goals as goal

pub returns-in-None : goal.returns-in-None
returns-in-None c = (λ _. none_least (λ (t : Kept). c.args.floor < t.number) c.args.store.now.blobs (sym c.least_with.ensures ∙ c.in-None.is), λ _. refl)

pub returns-in-Some : goal.returns-in-Some
returns-in-Some c =
    let s = some_least c.args.floor c.in-Some.least c.args.store.now.blobs (sym c.least_with.ensures ∙ c.in-Some.is) in
    (λ is. s.0 (grind (arith, nat_tests)), λ all. let l = s.1 all in grind (arith, nat_tests))
