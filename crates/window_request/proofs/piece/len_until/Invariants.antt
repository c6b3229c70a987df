use Rattle.std.proofs.Common.{◌≡◌, ◌+◌, drop}
use Rattle.std.specs.List.{prefix_len}
use Rattle.window_request.specs.Pieces.{differs}
use Rattle.window_request.proofs.piece.len_until.Given as goal

abbrev pub invariant-loop-at : goal.invariant-loop-at
invariant-loop-at l = l.at + prefix_len (differs l.byte) (drop l.at l.text) ≡ prefix_len (differs l.byte) l.text
