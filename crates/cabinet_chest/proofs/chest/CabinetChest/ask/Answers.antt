use Rattle.cabinet_chest.proofs.Acting.{ask_acts}
use Rattle.cabinet_chest.proofs.chest.CabinetChest.ask.Goals as goal

pub returns-in-Ok-clause-acts : goal.returns-in-Ok-clause-acts
returns-in-Ok-clause-acts g c = ask_acts _ _ _ _ c.known.ensures c.ask.ensures.later c.ask.ensures.still_sound _ _ c.requires c.in-Ok.ensures.asked c.in-Ok.ensures.sound
