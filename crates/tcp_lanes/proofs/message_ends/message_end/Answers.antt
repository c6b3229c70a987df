use Rattle.std.proofs.Common.{subst}
use Rattle.http_wire.specs.Looks.{Settles}
use Rattle.tcp_lanes.proofs.Messages.{never_a_message}
use Rattle.tcp_lanes.proofs.message_ends.message_end.Goals as goal

pub returns-in-None : goal.returns-in-None
returns-in-None c = c.in-None.ensures

pub returns-in-Some-Stopped : goal.returns-in-Some-Stopped
returns-in-Some-Stopped c = never_a_message c.args.held.now c.in-Some-Stopped.field-0-0 (subst (Settles c.args.held.now _) c.in-Some-Stopped.field-0-is c.in-Some-Stopped.ensures)
