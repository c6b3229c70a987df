use Rattle.std.proofs.Common.{◌≡◌, ℕ, ◌<◌, get_or, length}
use Rattle.source_render.proofs.grid_file.columns_of.Given as goal

abbrev pub invariant-loop-i : goal.invariant-loop-i
invariant-loop-i l = record {
  len : length l.columns ≡ 4224;
  each : (k : ℕ) → k < l.i → get_or l.columns k 0 < l.width;
}
