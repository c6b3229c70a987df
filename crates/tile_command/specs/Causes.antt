-- Why a command ends with each status: the tests of what it is handed, and the counts that rose. A test of bytes that aren't modelled
-- says nothing, and so is met.
use Rattle.std.specs.Prelude.{ℕ, ◌≡◌, ◌<◌, ◌≤◌, ◌⊎◌, ◌++◌, true, List, [], ◌∷◌, length, Option, Some, None, IfSome, Ok, Err, ⊤}
use Rattle.cabinet.specs.Commands.{Cuts}
use Rattle.cabinet.specs.declared.replies.CutReply.{CutReply}
use Rattle.cabinet.specs.declared.replies.CutReply.TheVariants as cut
use Rattle.cabinet.specs.State.{State, fresh_state}
use Rattle.catalog.specs.declared.catalogue.Catalogue.{Catalogue}
use Rattle.catalog.specs.declared.fault.CatalogueFault.{CatalogueFault}
use Rattle.base.specs.Causes.{Rose, RoseBy}
use Rattle.base.specs.Readings.{Readings}
use Rattle.command_setup.specs.Setup.{HasRisen}
use Rattle.command_status.specs.declared.status.Status.TheVariants as status
use Rattle.command_status.specs.declared.status.Status.{Status}
use Rattle.command_words.specs.declared.words.KeptWord.TheVariants as kept
use Rattle.command_words.specs.declared.words.MemoryWord.TheVariants as memory
use Rattle.command_words.specs.declared.words.UpkeepWord.TheVariants as upkeep
use Rattle.command_words.specs.declared.words.Word.{Word}
use Rattle.command_words.specs.declared.words.Word.TheVariants as word
use Rattle.config_text.specs.Text.{catalogue_of}
use Rattle.gate_journal.specs.declared.fault.OpenFault.{OpenFault}
use Rattle.gate_journal.specs.declared.fault.OpenFault.TheVariants as open_fault
use Rattle.http_wire.specs.declared.message.Message.{Message}
use Rattle.http_wire.specs.declared.message.Stop.TheVariants as stop
use Rattle.http_wire.specs.Streams.{StandIn}
use Rattle.job_forms.specs.Cover.{cover_of}
use Rattle.job_forms.specs.declared.fault.JobFault.{JobFault}
use Rattle.job_forms.specs.Outcome.{Outcome}
use Rattle.job_forms.specs.Reading.{job_of}
use Rattle.opened_cache.specs.Change.{DiskChange, HasFailed}
use Rattle.opened_cache.specs.Opened.{IsOpened, IsRefused}
use Rattle.tile_command.specs.Change.{CommandChange, without_disk}
use Rattle.tile_requests.specs.Requests.{Chance}
use Rattle.sessions.specs.declared.session.SessionEnd.{SessionEnd}
use Rattle.sessions.specs.declared.session.SessionEnd.TheVariants as session
use Rattle.tile_service.specs.Lines.{lines_of}
use Rattle.sessions.specs.Outside.{InputChange, Outside}
use Rattle.tile_service.specs.Run.{Run, RunState, disk_faults, free_seats, run, run_state_of}
use Rattle.tile_service.specs.Schedules.{IsUpheld}
use Rattle.sessions.specs.SessionEnds.{AreOpen, GoOn, StopsThere}
use Rattle.truncation_list.specs.declared.cover.Cover.{Cover}

-- WHAT EACH WORD TAKES

-- P, of a word that takes the capabilities document
abbrev pub OfDocument : Word → Type 0 → Type 0
OfDocument (word.InMemory w) P = P
OfDocument (word.Kept w) P = P
OfDocument (word.Upkeep w) P = ⊥
OfDocument word.Job P = ⊥

-- P, of a word that takes an input
abbrev pub OfInput : Word → Type 0 → Type 0
OfInput (word.InMemory memory.Schedule) P = P
OfInput (word.InMemory memory.Replay) P = P
OfInput (word.InMemory (memory.Drill number)) P = ⊥
OfInput (word.Kept w) P = P
OfInput (word.Upkeep upkeep.Make) P = ⊥
OfInput (word.Upkeep upkeep.Truncate) P = P
OfInput (word.Upkeep upkeep.Expire) P = ⊥
OfInput (word.Upkeep upkeep.Usage) P = ⊥
OfInput word.Job P = P

-- P, of a word that opens or makes the cache of the disk
abbrev pub OfDisk : Word → Type 0 → Type 0
OfDisk (word.InMemory w) P = ⊥
OfDisk (word.Kept w) P = P
OfDisk (word.Upkeep w) P = P
OfDisk word.Job P = P

-- WHAT STANDS BEFORE
-- The tests are in the order of the work: what comes before a test has passed its own.

-- P holds of the catalogue of the text, which isn't too long
abbrev pub UnderCatalogue : CommandChange → (Catalogue → Type 0) → Type 0
UnderCatalogue h P = (c : Catalogue) × IfSome h.catalogue.from (λ text. (length text ≤ 1048576) × (catalogue_of text ≡ Ok c)) × P c

-- P holds of it and of the capabilities document, which isn't too long
abbrev pub UnderBoth : CommandChange → (Catalogue → List ℕ → Type 0) → Type 0
UnderBoth h P = UnderCatalogue h (λ c. (document : List ℕ) × IfSome h.capabilities.from (λ text. (length text ≤ 4194304) × (text ≡ document)) × P c document)

-- P holds of it and of the cover, or the job, that the input has, where it is read so
abbrev pub UnderInput : {A : Type 0} → CommandChange → (Catalogue → List ℕ → Outcome A) → (Catalogue → A → Type 0) → Type 0
UnderInput {A} h reading P = UnderCatalogue h (λ c. (x : A) × IfSome h.input.from (λ text. (length text ≤ 65536) × (reading c text ≡ Ok x)) × P c x)

-- P holds of what the disk opens to
abbrev pub HoldsOnceOpened : DiskChange → Readings → Catalogue → (State → Type 0) → Type 0
HoldsOnceOpened d clock c P = (s : State) × IsOpened c clock d s × P s

-- THE FILES

-- a read failed of a file that the word takes
abbrev pub HasReadFault : CommandChange → Word → Type 0
HasReadFault h w = HasRisen h.catalogue ⊎ OfDocument w (HasRisen h.capabilities) ⊎ OfInput w (HasRisen h.input)

-- the file has more bytes than this
abbrev pub IsOver : ℕ → InputChange → Type 0
IsOver limit i = IfSome i.from (λ text. limit < length text)

-- the input has more bytes than the word's may have; a connection may have any number
abbrev pub IsInputOver : CommandChange → DiskChange → Readings → Word → Type 0
IsInputOver h d clock (word.InMemory memory.Schedule) = UnderBoth h (λ c document. IsOver 16777216 h.input)
IsInputOver h d clock (word.InMemory memory.Replay) = ⊥
IsInputOver h d clock (word.InMemory (memory.Drill number)) = ⊥
IsInputOver h d clock (word.Kept kept.Schedule) = UnderBoth h (λ c document. HoldsOnceOpened d clock c (λ s. IsOver 16777216 h.input))
IsInputOver h d clock (word.Kept kept.Replay) = ⊥
IsInputOver h d clock (word.Upkeep upkeep.Make) = ⊥
IsInputOver h d clock (word.Upkeep upkeep.Truncate) = UnderCatalogue h (λ c. IsOver 65536 h.input)
IsInputOver h d clock (word.Upkeep upkeep.Expire) = ⊥
IsInputOver h d clock (word.Upkeep upkeep.Usage) = ⊥
IsInputOver h d clock word.Job = UnderCatalogue h (λ c. IsOver 65536 h.input)

-- a file that the word takes has more bytes than it may have
abbrev pub IsTooLong : CommandChange → DiskChange → Readings → Word → Type 0
IsTooLong h d clock w = IsOver 1048576 h.catalogue ⊎ OfDocument w (UnderCatalogue h (λ c. IsOver 4194304 h.capabilities)) ⊎ IsInputOver h d clock w

-- the text of the catalogue has this fault
abbrev pub IsFaulty : CommandChange → CatalogueFault → Type 0
IsFaulty h fault = IfSome h.catalogue.from (λ text. (length text ≤ 1048576) × (catalogue_of text ≡ Err fault))

-- a cover or a job, where it is read so, has this fault
abbrev pub IsMalformedAs : {A : Type 0} → CommandChange → (Catalogue → List ℕ → Outcome A) → JobFault → Type 0
IsMalformedAs h reading fault = UnderCatalogue h (λ c. IfSome h.input.from (λ text. (length text ≤ 65536) × (reading c text ≡ Err fault)))

-- so has the cover of a truncation, or the job
abbrev pub IsMalformed : CommandChange → Word → JobFault → Type 0
IsMalformed h (word.InMemory w) fault = ⊥
IsMalformed h (word.Kept w) fault = ⊥
IsMalformed h (word.Upkeep upkeep.Make) fault = ⊥
IsMalformed h (word.Upkeep upkeep.Truncate) fault = IsMalformedAs h cover_of fault
IsMalformed h (word.Upkeep upkeep.Expire) fault = ⊥
IsMalformed h (word.Upkeep upkeep.Usage) fault = ⊥
IsMalformed h word.Job fault = IsMalformedAs h job_of fault

-- LINES

-- a run refuses this line, or none, and what is promised of its answers holds: so they tell no more failures of the source than its count rose by
abbrev pub RefusesSo : Outside → RunState → Run → Option ℕ → Type 0
RefusesSo o w r refused = (r.refused ≡ refused) × IsUpheld o.told o.renders w r

-- A run of the lines of the input from this cabinet refuses this line, or none, under chances that name no more faults of the disk than
-- its count rose by. A line is refused that is no line of a schedule, steps an idle actor, or starts a busy one.
abbrev pub RunRefuses : CommandChange → Outside → List ℕ → State → Option ℕ → Type 0
RunRefuses h o document s refused =
    (chances : List Chance) × RoseBy (disk_faults chances) o.disk.before o.disk.after
    × IfSome h.input.from (λ text. (length text ≤ 16777216) × RefusesSo o (run_state_of s document free_seats) (run (run_state_of s document free_seats) 1 (lines_of text) chances) refused)

-- so it is of the schedule of a word: it begins with a cabinet in which nothing has happened, or with what the disk opens to
abbrev pub RefusesLine : CommandChange → DiskChange → Readings → Word → ℕ → Type 0
RefusesLine h d clock (word.InMemory memory.Schedule) n = UnderBoth h (λ c document. RunRefuses h (without_disk h).outside document (fresh_state c clock) (Some n))
RefusesLine h d clock (word.InMemory memory.Replay) n = ⊥
RefusesLine h d clock (word.InMemory (memory.Drill number)) n = ⊥
RefusesLine h d clock (word.Kept kept.Schedule) n = UnderBoth h (λ c document. HoldsOnceOpened d clock c (λ s. RunRefuses h h.outside document s (Some n)))
RefusesLine h d clock (word.Kept kept.Replay) n = ⊥
RefusesLine h d clock (word.Upkeep w) n = ⊥
RefusesLine h d clock word.Job n = ⊥

-- MESSAGES

-- behind messages of which none is the last of its connection, fewer than 10,000, the stream ends within a message or goes on with what
-- is none; or 10,000 such messages stand at its front
abbrev pub BreaksOff : Option (List ℕ) → SessionEnd → Type 0
BreaksOff from session.Truncated = (messages : List Message) × (rest : Option (List ℕ)) × StandIn from messages rest × GoOn messages × StopsThere rest stop.Truncated
BreaksOff from (session.Bad code) = (messages : List Message) × (rest : Option (List ℕ)) × StandIn from messages rest × GoOn messages × StopsThere rest (stop.Bad code)
BreaksOff from session.TooMany = (messages : List Message) × (rest : Option (List ℕ)) × StandIn from messages rest × AreOpen messages × (length messages ≡ 10000)
BreaksOff from session.Closed = ⊥
BreaksOff from session.ReadFault = ⊥
BreaksOff from session.WriteFault = ⊥
BreaksOff from session.OutOfMemory = ⊥

-- the last of these messages is the last of its connection; none before it is, and they are fewer than 10,000
abbrev pub HaveLast : List Message → Type 0
HaveLast messages = (before : List Message) × (last : Message) × (messages ≡ before ++ last ∷ []) × GoOn before × (last.last ≡ true)

-- or it doesn't: the last of the connection stands among its first 10,000 messages, or the stream ends behind a message
abbrev pub ComesToEnd : Option (List ℕ) → Type 0
ComesToEnd from = (messages : List Message) × (rest : Option (List ℕ)) × StandIn from messages rest × (HaveLast messages ⊎ (GoOn messages × StopsThere rest stop.End))

-- so the connection that a word serves breaks off
abbrev pub BreaksStream : CommandChange → DiskChange → Readings → Word → SessionEnd → Type 0
BreaksStream h d clock (word.InMemory memory.Schedule) end = ⊥
BreaksStream h d clock (word.InMemory memory.Replay) end = UnderBoth h (λ c document. BreaksOff h.input.from end)
BreaksStream h d clock (word.InMemory (memory.Drill number)) end = ⊥
BreaksStream h d clock (word.Kept kept.Schedule) end = ⊥
BreaksStream h d clock (word.Kept kept.Replay) end = UnderBoth h (λ c document. HoldsOnceOpened d clock c (λ s. BreaksOff h.input.from end))
BreaksStream h d clock (word.Upkeep w) end = ⊥
BreaksStream h d clock word.Job end = ⊥

-- THE CACHE

-- the one cut of a cover, on what the disk opens to, has this reply
abbrev pub CutReplies : DiskChange → Readings → Catalogue → Cover → CutReply → Type 0
CutReplies d clock c cover reply = HoldsOnceOpened d clock c (λ s. (u : State) × Cuts s cover reply u)

-- the cache isn't opened for this cause, or no number is left for the one cut
abbrev pub IsCacheRefused : CommandChange → DiskChange → Readings → Word → OpenFault → Type 0
IsCacheRefused h d clock (word.InMemory w) cause = ⊥
IsCacheRefused h d clock (word.Kept w) cause = UnderBoth h (λ c document. IsRefused c d cause)
IsCacheRefused h d clock (word.Upkeep upkeep.Make) cause = ⊥
IsCacheRefused h d clock (word.Upkeep upkeep.Truncate) cause = UnderInput h cover_of (λ c cover. IsRefused c d cause ⊎ ((cause ≡ open_fault.Spent) × CutReplies d clock c cover cut.Spent))
IsCacheRefused h d clock (word.Upkeep upkeep.Expire) cause = UnderCatalogue h (λ c. IsRefused c d cause)
IsCacheRefused h d clock (word.Upkeep upkeep.Usage) cause = UnderCatalogue h (λ c. IsRefused c d cause)
IsCacheRefused h d clock word.Job cause = UnderInput h job_of (λ c job. IsRefused c d cause)

-- as many cuts would stay in force as may be
abbrev pub AreCutsFull : CommandChange → DiskChange → Readings → Word → Type 0
AreCutsFull h d clock (word.InMemory w) = ⊥
AreCutsFull h d clock (word.Kept w) = ⊥
AreCutsFull h d clock (word.Upkeep upkeep.Make) = ⊥
AreCutsFull h d clock (word.Upkeep upkeep.Truncate) = UnderInput h cover_of (λ c cover. CutReplies d clock c cover cut.Full)
AreCutsFull h d clock (word.Upkeep upkeep.Expire) = ⊥
AreCutsFull h d clock (word.Upkeep upkeep.Usage) = ⊥
AreCutsFull h d clock word.Job = ⊥

-- THE CAUSE OF EACH STATUS

-- what a word works on passed all tests
abbrev pub IsThrough : CommandChange → DiskChange → Readings → Word → Type 0
IsThrough h d clock (word.InMemory memory.Schedule) = UnderBoth h (λ c document. RunRefuses h (without_disk h).outside document (fresh_state c clock) None)
IsThrough h d clock (word.InMemory memory.Replay) = UnderBoth h (λ c document. ComesToEnd h.input.from)
IsThrough h d clock (word.InMemory (memory.Drill number)) = UnderBoth h (λ c document. ⊤)
IsThrough h d clock (word.Kept kept.Schedule) = UnderBoth h (λ c document. HoldsOnceOpened d clock c (λ s. RunRefuses h h.outside document s None))
IsThrough h d clock (word.Kept kept.Replay) = UnderBoth h (λ c document. HoldsOnceOpened d clock c (λ s. ComesToEnd h.input.from))
IsThrough h d clock (word.Upkeep upkeep.Make) = UnderCatalogue h (λ c. ⊤)
IsThrough h d clock (word.Upkeep upkeep.Truncate) = UnderInput h cover_of (λ c cover. (t : ℕ) × CutReplies d clock c cover (cut.Done t))
IsThrough h d clock (word.Upkeep upkeep.Expire) = UnderCatalogue h (λ c. HoldsOnceOpened d clock c (λ s. ⊤))
IsThrough h d clock (word.Upkeep upkeep.Usage) = UnderCatalogue h (λ c. HoldsOnceOpened d clock c (λ s. ⊤))
IsThrough h d clock word.Job = UnderInput h job_of (λ c job. HoldsOnceOpened d clock c (λ s. ⊤))

-- a status of words that are a command; want of memory alone is free
abbrev pub IsCaused : CommandChange → DiskChange → Readings → Word → Status → Type 0
IsCaused h d clock w status.Done = IsThrough h d clock w
IsCaused h d clock w status.OutOfMemory = ⊤
IsCaused h d clock w status.Usage = ⊥
IsCaused h d clock w status.ListenFault = ⊥
IsCaused h d clock w status.ThreadFault = ⊥
IsCaused h d clock w (status.Catalogue fault) = IsFaulty h fault
IsCaused h d clock w status.ReadFault = HasReadFault h w
IsCaused h d clock w status.WriteFault = Rose h.outside.writes.before h.outside.writes.after
IsCaused h d clock w status.DiskFault = OfDisk w (HasFailed d)
IsCaused h d clock w (status.Line n) = RefusesLine h d clock w n
IsCaused h d clock w (status.Cache cause) = IsCacheRefused h d clock w cause
IsCaused h d clock w status.CutsFull = AreCutsFull h d clock w
IsCaused h d clock w (status.Stream end) = BreaksStream h d clock w end
IsCaused h d clock w status.TooLong = IsTooLong h d clock w
IsCaused h d clock w (status.Form fault) = IsMalformed h w fault

-- of any words
abbrev pub HasCause : CommandChange → DiskChange → Readings → Option Word → Status → Type 0
HasCause h d clock None s = s ≡ status.Usage
HasCause h d clock (Some w) s = IsCaused h d clock w s

-- WHAT IS VALID IS DONE

-- none of the tests is met of what a word works on
pub record IsInOrder (h : CommandChange) (d : DiskChange) (clock : Readings) (w : Word) : Type 0 where
  pub short : IsTooLong h d clock w → ⊥
  pub catalogue : (fault : CatalogueFault) → IsFaulty h fault → ⊥
  pub form : (fault : JobFault) → IsMalformed h w fault → ⊥
  pub cache : (cause : OpenFault) → IsCacheRefused h d clock w cause → ⊥
  pub cuts : AreCutsFull h d clock w → ⊥
  pub lines : (n : ℕ) → RefusesLine h d clock w n → ⊥
  pub stream : (end : SessionEnd) → BreaksStream h d clock w end → ⊥

-- no read failed, and neither the output nor the disk did
pub record NothingFails (h : CommandChange) (d : DiskChange) : Type 0 where
  pub catalogue : HasRisen h.catalogue → ⊥
  pub capabilities : HasRisen h.capabilities → ⊥
  pub input : HasRisen h.input → ⊥
  pub output : Rose h.outside.writes.before h.outside.writes.after → ⊥
  pub disk : HasFailed d → ⊥

-- where all is in order and nothing fails, a command is done, or memory ran out
abbrev pub IsComplete : CommandChange → DiskChange → Readings → Option Word → Status → Type 0
IsComplete h d clock None s = ⊤
IsComplete h d clock (Some w) s = IsInOrder h d clock w → NothingFails h d → (s ≡ status.Done) ⊎ (s ≡ status.OutOfMemory)
