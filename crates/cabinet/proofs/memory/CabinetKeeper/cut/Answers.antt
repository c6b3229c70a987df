use Rattle.cabinet.proofs.Sounds.{cuts_sound}
use Rattle.cabinet.proofs.memory.CabinetKeeper.cut.Goals as goal

pub returns-clause-still_sound : goal.returns-clause-still_sound
returns-clause-still_sound c = cuts_sound c.args.self.now c.cut.new.self c.args.cover.now c.cut.result c.cut.ensures.cuts c.cut.ensures.err
