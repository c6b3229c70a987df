use Rattle.std.proofs.Common.{◌-◌, length}
use Rattle.http_answer.specs.Unchunking.{Moves}
use Rattle.http_answer.proofs.unchunking.unchunk_slice.Given as goal

abbrev pub invariant-chunks : goal.invariant-chunks
invariant-chunks l = Moves l.fn.bytes l.fn.from l.bytes l.to l.at

abbrev pub decreases-chunks : goal.decreases-chunks
decreases-chunks l = length l.bytes - l.at
