use Rattle.std.proofs.Common.{take}
use Rattle.kept_areas.specs.Bounds.{AreBounded}
use Rattle.kept_areas.proofs.bounds.bounds_of.Given as goal

abbrev pub invariant-widening : goal.invariant-widening
invariant-widening l = AreBounded (take l.at l.spots) l.bounds
