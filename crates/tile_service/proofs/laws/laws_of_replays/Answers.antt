use Rattle.tile_service.proofs.AnswersSent.{ends}
use Rattle.tile_service.proofs.laws.laws_of_replays.Goals as goal

pub returns : goal.returns
returns c = record { ends = λ i o document messages answers held rest end. ends document i o messages answers held rest end }
