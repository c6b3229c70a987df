use Rattle.cabinet_chest.specs.declared.command.Command.TheVariants.{Usage}
use Rattle.cabinet_chest.specs.declared.command.Reply.TheVariants as reply
use Rattle.cabinet_chest.proofs.Acting.{usage_acts}
use Rattle.cache_access.proofs.Acting.{one_gained}
use Rattle.cache_access.proofs.alone.AloneAccess.usage.Goals as goal

pub returns-clause-done : goal.returns-clause-done
returns-clause-done g c =
    let K = g.K.Keeper in
    rw c.counts_of.ensures
    (one_gained K.state K.faults K.outlasts c.args.cache.now c.args.cache.now (Usage c.args.layer) (reply.Usage _) (usage_acts (K.faults c.args.cache.now) (K.state c.args.cache.now) c.args.layer c.known.ensures))
