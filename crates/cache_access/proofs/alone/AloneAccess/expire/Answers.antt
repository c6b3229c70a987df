use Rattle.cabinet_chest.specs.declared.command.Command.TheVariants.{Expire}
use Rattle.cabinet_chest.specs.declared.command.Reply.TheVariants.{Expired}
use Rattle.cabinet_chest.proofs.Acting.{expire_acts}
use Rattle.cache_access.proofs.Acting.{acts_go, one_gained}
use Rattle.cache_access.proofs.Resting.{expire_rests}
use Rattle.cache_access.proofs.alone.AloneAccess.expire.Goals as goal

pub returns-clause-done : goal.returns-clause-done
returns-clause-done g c =
    let K = g.K.Keeper in let did = c.expire.ensures in
    one_gained K.state K.faults K.outlasts c.args.cache.now c.expire.new.self Expire (Expired c.expire.result)
    (expire_acts _ _ _ _ c.known.ensures did.later did.still_sound c.expire.result did.expires did.counted)

pub returns-clause-goes : goal.returns-clause-goes
returns-clause-goes g c =
    let K = g.K.Keeper in let did = c.expire.ensures in
    acts_go K.state K.faults K.outlasts c.args.cache.now c.expire.new.self Expire (Expired c.expire.result) did.lasts
    (expire_acts _ _ _ _ c.known.ensures did.later did.still_sound c.expire.result did.expires did.counted)

pub returns-clause-rests : goal.returns-clause-rests
returns-clause-rests g c rest = expire_rests (g.K.Keeper.state c.args.cache.now) (g.K.Keeper.state c.expire.new.self) rest c.expire.result c.expire.ensures.expires
