use Rattle.std.proofs.Common.{arith}
use Rattle.tcp_lanes.proofs.Messages.{none_new}
use Rattle.tcp_lanes.proofs.message_ends.may_end_head.Goals as goal

pub returns : goal.returns
returns c = λ no. none_new c.args.held.now c.args.seen _ (omega (arith, c.min.ensures)) (c.has_line_end.ensures no)
