use Rattle.std.proofs.Common.{subst}
use Rattle.cabinet.specs.State.{IsKnown}
use Rattle.durable_cabinet.proofs.Knowing.{known_on}
use Rattle.durable_cabinet.proofs.disk_cabinet.Cabinet.known.Goals as goal

pub returns : goal.returns
returns g c =
    let i = c.self.inside in
    subst (λ v. IsKnown v.state) c.self.view_is (known_on (g.D.Disk.told i.file.disk) (g.D.Disk.state i.file.disk).seen i.core.state c.known.ensures)
