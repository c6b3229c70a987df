use Rattle.std.proofs.Common.{arith}
use Rattle.window_request.proofs.Tens.{tens_least}
use Rattle.window_request.proofs.decimal.power.Goals as goal

pub returns-clause-some : goal.returns-clause-some
returns-clause-some c = omega (arith, tens_least 0 c.args.exponent (omega arith), c.pow.ensures)
