use Rattle.cabinet_chest.specs.declared.command.Command.TheVariants.{Finish}
use Rattle.cabinet_chest.specs.declared.command.Reply.TheVariants.{Finished}
use Rattle.cabinet_chest.proofs.Acting.{finish_acts}
use Rattle.cache_access.proofs.Acting.{acts_go, one_gained}
use Rattle.cache_access.proofs.Resting.{finish_rests}
use Rattle.cache_access.proofs.alone.AloneAccess.finish.Goals as goal

pub returns-clause-done : goal.returns-clause-done
returns-clause-done g c =
    let K = g.K.Keeper in let did = c.finish.ensures in
    one_gained K.state K.faults K.outlasts c.args.cache.now c.finish.new.self (Finish c.args.ticket c.args.blob) (Finished c.finish.result)
    (finish_acts _ _ _ _ c.known.ensures did.later c.args.ticket c.args.blob c.finish.result c.requires.blob did.finished did.counted did.sound)

pub returns-clause-goes : goal.returns-clause-goes
returns-clause-goes g c =
    let K = g.K.Keeper in let did = c.finish.ensures in
    acts_go K.state K.faults K.outlasts c.args.cache.now c.finish.new.self (Finish c.args.ticket c.args.blob) (Finished c.finish.result) did.lasts
    (finish_acts _ _ _ _ c.known.ensures did.later c.args.ticket c.args.blob c.finish.result c.requires.blob did.finished did.counted did.sound)

pub returns-clause-rests : goal.returns-clause-rests
returns-clause-rests g c one = finish_rests (g.K.Keeper.state c.args.cache.now) (g.K.Keeper.state c.finish.new.self) c.args.ticket one c.args.blob c.finish.result c.finish.ensures.finished
