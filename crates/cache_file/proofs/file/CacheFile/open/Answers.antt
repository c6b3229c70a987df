use Rattle.std.proofs.Common.{refl}
use Rattle.gate_journal.specs.declared.fault.OpenFault.TheVariants.{DiskFault}
use Rattle.gate_journal.proofs.Leading.{visits_none}
use Rattle.cache_file.proofs.file.CacheFile.open.Goals as goal

pub returns-in-Err-clause-refused : goal.returns-in-Err-clause-refused
returns-in-Err-clause-refused g c =
    visits_none g.V.Visit.visits g.V.Visit.leaves (g.D.Disk.told c.args.disk) c.args.digest.now c.args.slots (g.D.Disk.state c.args.disk).seen c.args.visit.now c.args.visit.now DiskFault refl (λ told. tt)
