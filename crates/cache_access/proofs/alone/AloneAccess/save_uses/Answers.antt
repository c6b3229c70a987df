use Rattle.cabinet_chest.specs.declared.command.Command.TheVariants.{SaveUses}
use Rattle.cabinet_chest.specs.declared.command.Reply.TheVariants.{Saved}
use Rattle.cabinet_chest.proofs.Acting.{save_acts}
use Rattle.cache_access.proofs.Acting.{acts_go, one_gained}
use Rattle.cache_access.proofs.Resting.{save_rests}
use Rattle.cache_access.proofs.alone.AloneAccess.save_uses.Goals as goal

pub returns-clause-done : goal.returns-clause-done
returns-clause-done g c =
    let K = g.K.Keeper in let did = c.save_uses.ensures in
    one_gained K.state K.faults K.outlasts c.args.cache.now c.save_uses.new.self SaveUses (Saved c.save_uses.result)
    (save_acts _ _ _ _ c.known.ensures did.later did.still_sound c.save_uses.result did.saves did.counted)

pub returns-clause-goes : goal.returns-clause-goes
returns-clause-goes g c =
    let K = g.K.Keeper in let did = c.save_uses.ensures in
    acts_go K.state K.faults K.outlasts c.args.cache.now c.save_uses.new.self SaveUses (Saved c.save_uses.result) did.lasts
    (save_acts _ _ _ _ c.known.ensures did.later did.still_sound c.save_uses.result did.saves did.counted)

pub returns-clause-rests : goal.returns-clause-rests
returns-clause-rests g c rest = save_rests (g.K.Keeper.state c.args.cache.now) (g.K.Keeper.state c.save_uses.new.self) rest c.save_uses.result c.save_uses.ensures.saves
