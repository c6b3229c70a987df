use Rattle.std.proofs.Common.{◌≡◌, length}
use Rattle.source_render.proofs.grid_file.put_values.Given as goal

abbrev pub invariant-loop-i : goal.invariant-loop-i
invariant-loop-i l = length l.into ≡ length l.initial.into
