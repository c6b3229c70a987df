-- How the text of a word is written.
use Rattle.std.specs.Prelude.{ℕ, List}
use Rattle.command_status.specs.declared.status.Status.{Status}
use Rattle.command_status.specs.declared.status.Status.TheVariants as status
use Rattle.opened_cache.specs.Change.{HasWritten, IsCutShort}
use Rattle.sessions.specs.Outside.{OutputChange}

-- how the writing of a text ends
abbrev pub Sends : OutputChange → List ℕ → Status → Type 0
Sends o text status.Done = HasWritten o text
Sends o text status.WriteFault = IsCutShort o text
Sends o text (status.Cache cause) = ⊥
Sends o text status.DiskFault = ⊥
Sends o text status.OutOfMemory = ⊥
Sends o text status.ReadFault = ⊥
Sends o text status.TooLong = ⊥
Sends o text (status.Form cause) = ⊥
Sends o text status.CutsFull = ⊥
Sends o text (status.Line n) = ⊥
Sends o text (status.Stream session) = ⊥
Sends o text status.Usage = ⊥
Sends o text (status.Catalogue fault) = ⊥
Sends o text status.ListenFault = ⊥
Sends o text status.ThreadFault = ⊥
