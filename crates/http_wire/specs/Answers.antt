-- What a reader of messages answers.
use Rattle.std.specs.Prelude.{◌≡◌, ℕ, ◌<◌, List, length, Option, Some, None, IfSome, Result, Ok, Err, ⊤}
use Rattle.std.specs.Io.KnownBytes.{Keeps, prepend_known}
use Rattle.http_wire.specs.Messages.{IsNext, StopsAs}
use Rattle.http_wire.specs.declared.message.Message.{Message}
use Rattle.http_wire.specs.declared.message.Next.{Next}
use Rattle.http_wire.specs.declared.message.Next.TheVariants as nexts
use Rattle.http_wire.specs.declared.message.WireFault.{WireFault}
use Rattle.http_wire.specs.declared.message.WireFault.TheVariants.{ReadFault, OutOfMemory}
use Rattle.http_wire.specs.declared.message.Stop.{Stop}
use Rattle.http_wire.specs.declared.message.Stop.TheVariants.{End, Truncated, Bad}
use Rattle.http_wire.specs.declared.message.Ended.{Ended}
use Rattle.http_wire.specs.declared.message.Ended.TheVariants.{Stopped, Failed}

-- the answer at a stop
abbrev pub next_at : Stop → Next
next_at End = nexts.End
next_at Truncated = nexts.Truncated
next_at (Bad status) = nexts.Bad status

-- what is answered after such an end
abbrev pub again_of : Ended → Result Next WireFault
again_of (Stopped stop) = Ok (next_at stop)
again_of (Failed fault) = Err fault

-- how a reader that answered this has ended, if it has
abbrev pub stop_of : Next → Option Ended
stop_of (nexts.Message message) = None
stop_of nexts.End = Some (Stopped End)
stop_of nexts.Truncated = Some (Stopped Truncated)
stop_of (nexts.Bad status) = Some (Stopped (Bad status))

abbrev pub ended_of : Result Next WireFault → Option Ended
ended_of (Ok next) = stop_of next
ended_of (Err fault) = Some (Failed fault)

-- the message stands at the front of the bytes before, and the bytes after follow it
abbrev pub TakesMessage : Option (List ℕ) → Message → Option (List ℕ) → Type 0
TakesMessage None message after = ⊤
TakesMessage (Some bytes) message None = ⊥
TakesMessage (Some bytes) message (Some rest) = IsNext bytes message rest

abbrev pub AnswersNext : Option (List ℕ) → Option (List ℕ) → Next → Type 0
AnswersNext before after (nexts.Message message) = TakesMessage before message after
AnswersNext before after nexts.End = IfSome before (λ bytes. StopsAs bytes End)
AnswersNext before after nexts.Truncated = IfSome before (λ bytes. StopsAs bytes Truncated)
AnswersNext before after (nexts.Bad status) = IfSome before (λ bytes. StopsAs bytes (Bad status))

-- The answer is what the bytes before say, where they are modelled. A fault says nothing of them.
abbrev pub Answers : Option (List ℕ) → Option (List ℕ) → Result Next WireFault → Type 0
Answers before after (Ok next) = AnswersNext before after next
Answers before after (Err fault) = ⊤

-- WHAT STANDS AFTER AN ANSWER

-- at a stop the bytes stay, and stop so
abbrev pub StaysAt : Option (List ℕ) → Option (List ℕ) → Stop → Type 0
StaysAt before after stop = Keeps before after × IfSome after (λ bytes. StopsAs bytes stop)

-- after a message stands what TakesMessage says
abbrev pub LeavesNext : Option (List ℕ) → Option (List ℕ) → Next → Type 0
LeavesNext before after (nexts.Message message) = ⊤
LeavesNext before after nexts.End = StaysAt before after End
LeavesNext before after nexts.Truncated = StaysAt before after Truncated
LeavesNext before after (nexts.Bad status) = StaysAt before after (Bad status)

-- the bytes before are some that were taken, and those that are left
abbrev pub Remain : Option (List ℕ) → Option (List ℕ) → Type 0
Remain before left = (taken : List ℕ) × Keeps before (prepend_known taken left)

-- at a failed read the bytes stay; where memory ran out, those that were taken may be lost
abbrev pub LeavesFault : Option (List ℕ) → List ℕ → Option (List ℕ) → WireFault → Type 0
LeavesFault before held left ReadFault = Keeps before (prepend_known held left)
LeavesFault before held left OutOfMemory = Remain before left

-- An answer that is no message takes no byte out of the stream.
abbrev pub Leaves : Option (List ℕ) → List ℕ → Option (List ℕ) → Result Next WireFault → Type 0
Leaves before held left (Ok next) = LeavesNext before (prepend_known held left) next
Leaves before held left (Err fault) = LeavesFault before held left fault

-- WHAT IS TAKEN TOO EARLY

-- the bytes are fewer than one take may bring
abbrev pub IsPartOfTake : List ℕ → Type 0
IsPartOfTake held = length held < 4096

-- the answer is a message
abbrev pub IsMessage : Result Next WireFault → Type 0
IsMessage answer = (message : Message) × (answer ≡ Ok (nexts.Message message))
