use Rattle.durable_cabinet.proofs.OpeningOpened.{made_end, made_ours}
use Rattle.durable_cabinet.proofs.disk_cabinet.make.Goals as goal

pub returns-clause-made : goal.returns-clause-made
returns-clause-made g c told =
    made_ours c.make.result c.args.catalogue.now c.slots_for.result (g.D.Disk.state c.make.new.disk) c.slots_for.ensures (c.make.ensures.made told) (c.make.ensures.durable told) (c.make.ensures.end told)

pub returns-clause-end : goal.returns-clause-end
returns-clause-end g c told =
    made_end c.make.result c.args.catalogue.now c.slots_for.result (g.D.Disk.state c.make.new.disk).seen c.slots_for.ensures (c.make.ensures.end told)
