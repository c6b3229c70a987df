-- The disk that a call leaves.
use Rattle.std.specs.Prelude.{Result, Ok, Err}
use Rattle.cache_file.specs.declared.file.CacheFile.{CacheFile}
use Rattle.gate_journal.specs.declared.fault.OpenFault.{OpenFault}
use Rattle.change_feed.specs.Files.{ShownFeed}

-- the disk after an opening, which a refusal hands back
abbrev pub marks_of : {D : Type 0} → Result (ShownFeed D) (OpenFault × D) → D
marks_of (Ok feed) = feed.file.disk
marks_of (Err refusal) = refusal.1
