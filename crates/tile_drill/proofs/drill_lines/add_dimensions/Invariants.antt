use Rattle.std.proofs.Common.{◌≡◌, ◌++◌, flat_map, take}
use Rattle.tile_drill.specs.Made.{dimension_text}
use Rattle.tile_drill.proofs.drill_lines.add_dimensions.Given as goal

abbrev pub invariant-adding : goal.invariant-adding
invariant-adding l = record {
  added : l.text.items ≡ l.initial.text.items ++ flat_map dimension_text (take l.dimension-index l.dimensions);
}
