use Rattle.http_wire.proofs.StreamGrows.{stand_in_more, whole_stream}
use Rattle.http_wire.proofs.laws.each_answer.Goals as goal

pub returns-clause-message : goal.returns-clause-message
returns-clause-message c = stand_in_more

pub returns-clause-stop : goal.returns-clause-stop
returns-clause-stop c = whole_stream
