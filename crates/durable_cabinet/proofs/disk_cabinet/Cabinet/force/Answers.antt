use Rattle.durable_cabinet.proofs.Stepping.{forced_filed, forced_room}
use Rattle.durable_cabinet.proofs.Heating.{forces_hot, hot_stays}
use Rattle.durable_cabinet.proofs.disk_cabinet.Cabinet.force.Goals as goal

pub invariant_of-self-in-Ok : goal.invariant_of-self-in-Ok
invariant_of-self-in-Ok g c =
    let i = c.self.inside in
    let s = i.core.state in
    let f = i.file in (
      forced_filed (g.D.Disk.told f.disk) s c.force.new.self.state c.args.meta.now c.force.result c.force.ensures.forced c.force.ensures.err f.start f.journal (g.D.Disk.state f.disk) c.self.invariant.0,
      forced_room s c.force.new.self.state c.args.meta.now c.force.result c.force.ensures.forced c.force.ensures.err c.reserve_one_more.new.draft.room c.in-Ok.ensures.room,
      hot_stays (g.D.Disk.told f.disk) s c.force.new.self.state (g.D.Disk.state f.disk).seen i.hot (forces_hot s c.force.new.self.state c.args.meta.now c.force.result c.force.ensures.forced c.force.ensures.err) c.self.invariant.2,
    )
