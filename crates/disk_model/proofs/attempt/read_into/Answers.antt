use Rattle.std.proofs.Common.{length, arith}
use Rattle.disk_model.proofs.Reading.{is_bytes_at}
use Rattle.disk_model.proofs.attempt.read_into.Goals as goal

pub returns : goal.returns
returns c = is_bytes_at c.args.bytes.now c.args.at (length c.args.into.now) c.loop-k.into (omega arith) (λ i lt. c.loop-k.invariant i (omega arith))
