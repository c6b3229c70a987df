use Rattle.std.proofs.Common.{◌≡◌, take}
use Rattle.kept_areas.specs.Areas.{least_in}
use Rattle.kept_areas.proofs.table.least_of.Given as goal

abbrev pub invariant-comparing : goal.invariant-comparing
invariant-comparing l = l.least ≡ least_in l.fn.was (take l.at l.spots)
