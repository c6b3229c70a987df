use Rattle.std.proofs.Common.{◌≡◌, ◌+◌, ◌≤◌, length}
use Rattle.composite_layers.specs.Parts.{moment}
use Rattle.tile_service.specs.Lines.{lines_of}
use Rattle.compose_words.proofs.Going.{SoFar}
use Rattle.compose_words.proofs.lines.run_lines.Given as goal

abbrev pub invariant-loop-rest : goal.invariant-loop-rest
invariant-loop-rest g l = record {
  so_far : SoFar (g.S.Source.told l.initial.source) l.recipe.grid l.recipe.parts.items (g.O.ByteSink.taken l.initial.output) (g.O.ByteSink.taken l.output) (lines_of l.text) (moment l.initial.cabinet (g.S.Source.faults l.initial.source) 0) (moment l.cabinet (g.S.Source.faults l.source) 0) l.number l.rest;
  told : g.S.Source.told l.source ≡ g.S.Source.told l.initial.source;
  later : g.O.ByteSink.faults l.initial.output ≤ g.O.ByteSink.faults l.output;
  few : l.number + length l.rest ≤ length l.text + 1;
}

abbrev pub decreases-loop-rest : goal.decreases-loop-rest
decreases-loop-rest g l = length l.rest
