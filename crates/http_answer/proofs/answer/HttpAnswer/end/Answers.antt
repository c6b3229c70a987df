use Rattle.std.proofs.Common.{refl}
use Rattle.http_answer.proofs.Told.{still_waits}
use Rattle.http_answer.proofs.answer.HttpAnswer.end.Goals as goal

pub returns-in_default : goal.returns-in_default
returns-in_default c came reading = (refl, still_waits came c.args.self.stage c.in_default.not-ToEnd reading.waits)
