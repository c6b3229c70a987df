use Rattle.std.proofs.Common.{◌≡◌, ℕ, ◌+◌, ◌*◌, ◌<◌}
use Rattle.disk_model.specs.Content.{bytes_at}
use Rattle.gate_journal.specs.Sound.{slot_of}
use Rattle.gate_journal.proofs.pieces.fill_piece.Given as goal

abbrev pub invariant-loop-k : goal.invariant-loop-k
invariant-loop-k l = (i : ℕ) → i < l.k → bytes_at l.piece (64 * i) 64 ≡ slot_of l.bodies (l.first + i)
