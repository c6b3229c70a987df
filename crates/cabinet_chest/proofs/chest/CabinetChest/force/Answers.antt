use Rattle.cabinet_chest.proofs.Acting.{force_acts}
use Rattle.cabinet_chest.proofs.chest.CabinetChest.force.Goals as goal

pub returns-in-Ok-clause-acts : goal.returns-in-Ok-clause-acts
returns-in-Ok-clause-acts g c = force_acts _ _ _ _ c.known.ensures c.force.ensures.later c.force.ensures.still_sound _ _ c.requires c.in-Ok.ensures.forced
