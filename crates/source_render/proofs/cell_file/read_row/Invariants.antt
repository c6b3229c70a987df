use Rattle.std.proofs.Common.{◌≤◌}
use Rattle.source_render.proofs.cell_file.read_row.Given as goal

abbrev pub invariant-loop-i : goal.invariant-loop-i
invariant-loop-i l = l.chunk.held ≤ 4096
