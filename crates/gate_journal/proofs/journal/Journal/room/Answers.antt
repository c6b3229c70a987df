use Rattle.gate_journal.proofs.Behind.{fills_half}
use Rattle.gate_journal.proofs.journal.Journal.room.Goals as goal

pub returns-clause-fills : goal.returns-clause-fills
returns-clause-fills c d = fills_half c.args.self.now d
