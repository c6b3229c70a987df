use Rattle.cabinet_chest.specs.declared.command.Command.TheVariants.{Abandon}
use Rattle.cabinet_chest.specs.declared.command.Reply.TheVariants.{Abandoned}
use Rattle.cabinet_chest.proofs.Acting.{abandon_acts}
use Rattle.cache_access.proofs.Acting.{acts_go, one_gained}
use Rattle.cache_access.proofs.Resting.{abandon_rests}
use Rattle.std.proofs.Common.{arith}
use Rattle.cache_access.proofs.alone.AloneAccess.abandon.Goals as goal

pub returns-clause-done : goal.returns-clause-done
returns-clause-done g c =
    let K = g.K.Keeper in let same = c.abandon.ensures.same in
    one_gained K.state K.faults K.outlasts c.args.cache.now c.abandon.new.self (Abandon c.args.ticket) Abandoned
    (abandon_acts _ _ _ _ c.known.ensures (omega arith) c.abandon.ensures.still_sound c.args.ticket c.abandon.ensures.abandons same)

pub returns-clause-goes : goal.returns-clause-goes
returns-clause-goes g c =
    let K = g.K.Keeper in let same = c.abandon.ensures.same in
    acts_go K.state K.faults K.outlasts c.args.cache.now c.abandon.new.self (Abandon c.args.ticket) Abandoned c.abandon.ensures.lasts
    (abandon_acts _ _ _ _ c.known.ensures (omega arith) c.abandon.ensures.still_sound c.args.ticket c.abandon.ensures.abandons same)

pub returns-clause-rests : goal.returns-clause-rests
returns-clause-rests g c one = abandon_rests (g.K.Keeper.state c.args.cache.now) (g.K.Keeper.state c.abandon.new.self) c.args.ticket one c.abandon.ensures.abandons
