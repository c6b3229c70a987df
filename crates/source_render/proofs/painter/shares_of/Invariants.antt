use Rattle.std.proofs.Common.{◌≡◌, length}
use Rattle.source_render.specs.Shown.{AreShares}
use Rattle.source_render.proofs.painter.shares_of.Given as goal

abbrev pub invariant-loop-i : goal.invariant-loop-i
invariant-loop-i l = record {
  len : length l.shares ≡ 4224;
  each : AreShares l.matrix.span l.layer.cell l.first l.i l.shares;
}
