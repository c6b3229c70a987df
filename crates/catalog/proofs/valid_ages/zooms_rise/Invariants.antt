use Rattle.std.proofs.Common.{◌≡◌, drop}
use Rattle.catalog.specs.FirstFault.{zooms_rise}
use Rattle.catalog.proofs.valid_ages.zooms_rise.Given as goal

abbrev pub invariant-loop-age : goal.invariant-loop-age
invariant-loop-age l = zooms_rise l.least (drop l.age-index l.ages) ≡ zooms_rise 0 l.ages
