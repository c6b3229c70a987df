-- What a call hands back.
use Rattle.std.specs.Prelude.{Result, Ok, Err}
use Rattle.gate_journal.specs.declared.fault.OpenFault.{OpenFault}
use Rattle.durable_cabinet.specs.Filed.{ShownCabinet}

-- the disk after an opening, which a refusal hands back
abbrev pub disk_of : {D : Type 0} → Result (ShownCabinet D) (OpenFault × D) → D
disk_of (Ok cabinet) = cabinet.file.disk
disk_of (Err refusal) = refusal.1
