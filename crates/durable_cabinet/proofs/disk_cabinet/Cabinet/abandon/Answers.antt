use Rattle.std.proofs.Common.{arith}
use Rattle.durable_cabinet.proofs.Forcing.{abandons_alike, abandons_needed, filed_alike}
use Rattle.durable_cabinet.proofs.Heating.{abandons_hot, hot_stays}
use Rattle.durable_cabinet.proofs.disk_cabinet.Cabinet.abandon.Goals as goal

pub invariant_of-self : goal.invariant_of-self
invariant_of-self g c =
    let i = c.self.inside in
    let s = i.core.state in
    let f = i.file in
    let u = c.abandon.new.self.state in (
      filed_alike (g.D.Disk.told f.disk) s u f.start f.journal (g.D.Disk.state f.disk) (abandons_alike s u c.args.ticket c.abandon.ensures.abandons) c.self.invariant.0,
      omega (arith, c.self.invariant.1, abandons_needed s u c.args.ticket c.abandon.ensures.abandons),
      hot_stays (g.D.Disk.told f.disk) s u (g.D.Disk.state f.disk).seen i.hot (abandons_hot s u c.args.ticket c.abandon.ensures.abandons) c.self.invariant.2,
    )
