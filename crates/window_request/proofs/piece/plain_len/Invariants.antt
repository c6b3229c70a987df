use Rattle.std.proofs.Common.{◌≡◌, ◌+◌, drop}
use Rattle.std.specs.List.{prefix_len}
use Rattle.window_request.specs.Pieces.{is_plain}
use Rattle.window_request.proofs.piece.plain_len.Given as goal

abbrev pub invariant-loop-at : goal.invariant-loop-at
invariant-loop-at l = l.at + prefix_len is_plain (drop l.at l.text) ≡ prefix_len is_plain l.text
