use Rattle.std.proofs.Common.{◌≡◌, ◌+◌, ◌<◌, ℕ, get_or}
use Rattle.disk_model.specs.Content.{byte_at}
use Rattle.disk_model.proofs.attempt.read_into.Given as goal

abbrev pub invariant-loop-k : goal.invariant-loop-k
invariant-loop-k l = (i : ℕ) → i < l.k → get_or l.into i 0 ≡ byte_at l.bytes (l.at + i)
