use Rattle.http_answer.proofs.AtTheStart.{nothing_came}
use Rattle.http_answer.proofs.answer.HttpAnswer.new.Goals as goal

pub returns-clause-reading : goal.returns-clause-reading
returns-clause-reading c = record { at = c.new.ensures.items; waits = nothing_came }
