use Rattle.std.proofs.Common.{◌≡◌, take}
use Rattle.kept_areas.specs.Areas.{all_spots, least_in}
use Rattle.kept_areas.proofs.walk.least_among.Given as goal

abbrev pub invariant-comparing : goal.invariant-comparing
invariant-comparing l = l.least ≡ least_in l.fn.was (all_spots (take l.at l.chunks))
