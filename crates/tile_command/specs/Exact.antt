-- The other direction of the causes: what is refused of the files is told, and nothing else is.
use Rattle.std.specs.Prelude.{ℕ, ◌≡◌, ◌≤◌, ◌+◌, ◌⊎◌, IfSome, IsSome, IsSomeAnd, IsTrue, List, length, slice_get, Option, Some, None, ⊤}
use Rattle.cabinet.specs.State.{State, fresh_state}
use Rattle.catalog.specs.declared.fault.CatalogueFault.{CatalogueFault}
use Rattle.base.specs.Causes.{RoseBy}
use Rattle.base.specs.Readings.{Readings}
use Rattle.command_status.specs.declared.status.Status.TheVariants as status
use Rattle.command_status.specs.declared.status.Status.{Status}
use Rattle.command_words.specs.declared.words.KeptWord.TheVariants as kept
use Rattle.command_words.specs.declared.words.MemoryWord.TheVariants as memory
use Rattle.command_words.specs.declared.words.Word.{Word}
use Rattle.command_words.specs.declared.words.Word.TheVariants as word
use Rattle.gate_journal.specs.declared.fault.OpenFault.{OpenFault}
use Rattle.http_wire.specs.declared.message.Message.{Message}
use Rattle.http_wire.specs.declared.message.Stop.{Stop}
use Rattle.http_wire.specs.declared.message.Stop.TheVariants as stop
use Rattle.http_wire.specs.Exceptions.{AgreeAfter}
use Rattle.job_forms.specs.declared.fault.JobFault.{JobFault}
use Rattle.opened_cache.specs.Change.{DiskChange}
use Rattle.tile_command.specs.Causes.{AreCutsFull, BreaksStream, HoldsOnceOpened, IsCacheRefused, IsFaulty, IsInputOver, IsMalformed, IsOver, NothingFails, OfDocument, UnderBoth, UnderCatalogue}
use Rattle.tile_command.specs.Change.{CommandChange, without_disk}
use Rattle.tile_requests.specs.Requests.{Chance}
use Rattle.sessions.specs.declared.session.SessionEnd.{SessionEnd}
use Rattle.sessions.specs.declared.session.SessionEnd.TheVariants as session
use Rattle.tile_service.specs.Lines.{action_in, lines_of}
use Rattle.sessions.specs.Outside.{Outside}
use Rattle.tile_service.specs.Run.{RunState, disk_faults, free_seats, run, run_state_of}
use Rattle.tile_service.specs.Schedules.{IsUpheld}

-- the files are modelled
pub record AreModelled (h : CommandChange) : Type 0 where
  pub catalogue : IsSome h.catalogue.from
  pub capabilities : IsSome h.capabilities.from
  pub input : IsSome h.input.from

-- this is the status, unless memory ran out
abbrev pub IsTold : Status → Status → Type 0
IsTold told s = (s ≡ told) ⊎ (s ≡ status.OutOfMemory)

-- the disk is modelled, of a word that opens its cache before it looks at its input
abbrev pub OpensModelled : DiskChange → Word → Type 0
OpensModelled d (word.InMemory w) = ⊤
OpensModelled d (word.Kept w) = IsTrue d.told
OpensModelled d (word.Upkeep w) = ⊤
OpensModelled d word.Job = ⊤

-- LINES

-- P holds of what the schedule of a word begins with: what it sees of its source, of its output and of its disk, the document, and the cabinet,
-- in which nothing has happened or which is what the disk opens to
abbrev pub UnderSchedule : CommandChange → DiskChange → Readings → Word → (Outside → List ℕ → State → Type 0) → Type 0
UnderSchedule h d clock (word.InMemory memory.Schedule) P = UnderBoth h (λ c document. P (without_disk h).outside document (fresh_state c clock))
UnderSchedule h d clock (word.InMemory memory.Replay) P = ⊥
UnderSchedule h d clock (word.InMemory (memory.Drill number)) P = ⊥
UnderSchedule h d clock (word.Kept kept.Schedule) P = UnderBoth h (λ c document. HoldsOnceOpened d clock c (λ s. P h.outside document s))
UnderSchedule h d clock (word.Kept kept.Replay) P = ⊥
UnderSchedule h d clock (word.Upkeep w) P = ⊥
UnderSchedule h d clock word.Job P = ⊥

-- the input isn't too long for a schedule, and this holds of its lines
abbrev pub OfLines : CommandChange → (List (List ℕ) → Type 0) → Type 0
OfLines h P = IfSome h.input.from (λ text. (length text ≤ 16777216) × P (lines_of text))

-- Each run of these lines refuses this one, under whatever chances that name no more faults of the disk than its count rose by, where what is promised
-- of its answers holds. What happens by chance isn't told, and can make a difference: an actor for whose message memory ran out isn't busy.
abbrev pub EachRunRefuses : Outside → RunState → ℕ → List (List ℕ) → Type 0
EachRunRefuses o w n lines =
    (chances : List Chance) → RoseBy (disk_faults chances) o.disk.before o.disk.after → IsUpheld o.told o.renders w (run w 1 lines chances) → (run w 1 lines chances).refused ≡ Some n

-- so it is of the schedule of a word
abbrev pub RefusesInAll : CommandChange → DiskChange → Readings → Word → ℕ → Type 0
RefusesInAll h d clock w n = UnderSchedule h d clock w (λ o document s. OfLines h (EachRunRefuses o (run_state_of s document free_seats) n))

-- this one of the lines, counted from 1, is no line of a schedule
abbrev pub IsIllAt : ℕ → List (List ℕ) → Type 0
IsIllAt n lines = (i : ℕ) × (n ≡ i + 1) × IsSomeAnd (slice_get lines i) (λ line. action_in line ≡ None)

-- so it is of the schedule of a word
abbrev pub HasIllLine : CommandChange → DiskChange → Readings → Word → ℕ → Type 0
HasIllLine h d clock w n = UnderSchedule h d clock w (λ o document s. OfLines h (IsIllAt n))

-- a line is told as refused that is no later than this one
abbrev pub IsToldBy : ℕ → Status → Type 0
IsToldBy n s = (s ≡ status.OutOfMemory) ⊎ ((m : ℕ) × (m ≤ n) × (s ≡ status.Line m))

-- MESSAGES

-- how a connection ends whose stream stops so, behind messages after which it goes on
abbrev pub end_of_stop : Stop → SessionEnd
end_of_stop stop.End = session.Closed
end_of_stop stop.Truncated = session.Truncated
end_of_stop (stop.Bad code) = session.Bad code

-- two ends of a connection are one, or differ by the exceptions alone: behind the same messages its bytes may be told in both of the two ways
abbrev pub AreAsGood : Option (List ℕ) → SessionEnd → SessionEnd → Type 0
AreAsGood from end other =
    (end ≡ other)
    ⊎ IfSome from (λ bytes. (messages : List Message) × (s : Stop) × (t : Stop) × (end ≡ end_of_stop s) × (other ≡ end_of_stop t) × AgreeAfter bytes messages s t)

-- the connection of a word, which breaks off so, is told to break off so, or in the other way that the exceptions allow
abbrev pub IsBreakTold : CommandChange → DiskChange → Readings → Word → SessionEnd → Status → Type 0
IsBreakTold h d clock w end s = (s ≡ status.OutOfMemory) ⊎ ((other : SessionEnd) × (s ≡ status.Stream other) × BreaksStream h d clock w other × AreAsGood h.input.from end other)

-- ALL TESTS

-- each file of more bytes than it may have is told as too long, and each fault of the catalogue, of the cover or of the job as that fault;
-- the input of a schedule on the cache of the disk is looked at where that is opened. So is each cause for which a modelled disk isn't
-- opened, by any word that opens it, the slot of a bad record included, and that no number is left or no cut has room, where it is opened.
-- A line that each run refuses is told, one that is no line of a schedule or one before it is, and so is a connection that breaks off.
pub record TellsTests (h : CommandChange) (d : DiskChange) (clock : Readings) (w : Word) (s : Status) : Type 0 where
  pub long_catalogue : IsOver 1048576 h.catalogue → IsTold status.TooLong s
  pub catalogue : (fault : CatalogueFault) → IsFaulty h fault → IsTold (status.Catalogue fault) s
  pub long_document : OfDocument w (UnderCatalogue h (λ c. IsOver 4194304 h.capabilities)) → IsTold status.TooLong s
  pub long_input : OpensModelled d w → IsInputOver h d clock w → IsTold status.TooLong s
  pub form : (fault : JobFault) → IsMalformed h w fault → IsTold (status.Form fault) s
  pub cache : IsTrue d.told → (cause : OpenFault) → IsCacheRefused h d clock w cause → IsTold (status.Cache cause) s
  pub cuts : IsTrue d.told → AreCutsFull h d clock w → IsTold status.CutsFull s
  pub lines : OpensModelled d w → (n : ℕ) → RefusesInAll h d clock w n → IsTold (status.Line n) s
  pub ill_line : OpensModelled d w → (n : ℕ) → HasIllLine h d clock w n → IsToldBy n s
  pub stream : OpensModelled d w → (end : SessionEnd) → BreaksStream h d clock w end → IsBreakTold h d clock w end s

-- so it is of modelled files, where nothing fails
abbrev pub IsExact : CommandChange → DiskChange → Readings → Option Word → Status → Type 0
IsExact h d clock None s = ⊤
IsExact h d clock (Some w) s = AreModelled h → NothingFails h d → TellsTests h d clock w s
