use Rattle.std.proofs.Common.{◌≡◌, ◌++◌, drop, map}
use Rattle.serde_json.specs.View.{view}
use Rattle.fault_paths.specs.Unknown.{by_place, grid_lines}
use Rattle.fault_paths.proofs.unknown.add_each_grid.Given as goal

-- with the lines of the objects from this one on the text comes to all of them
abbrev pub invariant-loop-place : goal.invariant-loop-place
invariant-loop-place l = record {
  rest : l.text.items ++ by_place grid_lines l.place (drop l.place (map view l.grids)) ≡ l.initial.text.items ++ by_place grid_lines 0 (map view l.grids);
}
