use Rattle.std.proofs.Common.{◌≡◌, drop}
use Rattle.std.specs.Option.{option_or}
use Rattle.catalog.specs.AgeLimits.{last_at}
use Rattle.catalog.proofs.ages.last_at.Given as goal

abbrev pub invariant-loop-age : goal.invariant-loop-age
invariant-loop-age l = option_or (last_at l.z (drop l.age-index l.ages)) l.found ≡ last_at l.z l.ages
