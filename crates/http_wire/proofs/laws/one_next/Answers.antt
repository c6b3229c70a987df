use Rattle.http_wire.proofs.OneReading.{messages_same, message_or_stop, stops_agree}
use Rattle.http_wire.proofs.laws.one_next.Goals as goal

pub returns-clause-message : goal.returns-clause-message
returns-clause-message c = λ bytes rest other_rest message other. messages_same bytes rest other_rest message other

pub returns-clause-either : goal.returns-clause-either
returns-clause-either c = message_or_stop

pub returns-clause-stop : goal.returns-clause-stop
returns-clause-stop c = stops_agree
