use Rattle.cabinet_records.proofs.Reopening.{answers_after, opens_after}
use Rattle.cabinet_records.proofs.openings.laws_of_replays.Goals as goal

pub returns : goal.returns
returns c = record { opens = opens_after; answers = answers_after }
