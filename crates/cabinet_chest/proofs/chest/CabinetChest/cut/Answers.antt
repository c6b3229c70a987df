use Rattle.cabinet_chest.proofs.Acting.{cut_acts}
use Rattle.cabinet_chest.proofs.chest.CabinetChest.cut.Goals as goal

pub returns-in-Ok-clause-acts : goal.returns-in-Ok-clause-acts
returns-in-Ok-clause-acts g c = cut_acts _ _ _ _ c.known.ensures c.cut.ensures.later c.cut.ensures.still_sound _ _ c.requires c.in-Ok.ensures.cuts c.in-Ok.ensures.counted
