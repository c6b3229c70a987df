-- What the work of an opened twin comes to.
-- A tie between the code and its definitions: the promise can be read without it.
use Rattle.std.specs.Prelude.{ℕ, ◌≡◌, ◌≤◌, ◌⊎◌, ◌+◌, ◌++◌, ◌&&◌, IsTrue, List, [], ◌∷◌, length, Option, Some, ⊤}
use Rattle.cabinet.specs.State.{IsSound}
use Rattle.catalog.specs.declared.catalogue.Catalogue.{Catalogue}
use Rattle.base.specs.Causes.{Rose}
use Rattle.change_feed.specs.Files.{MayEndIn}
use Rattle.cut_follower.specs.Lossy.{LinkEvent}
use Rattle.disk_model.specs.Images.{Leaves}
use Rattle.gate_journal.specs.declared.fault.OpenFault.{OpenFault}
use Rattle.http_wire.specs.declared.inputs.InputEnd.{InputEnd}
use Rattle.http_wire.specs.declared.inputs.InputEnd.TheVariants as input_end
use Rattle.command_status.specs.declared.status.Status.{Status}
use Rattle.command_status.specs.declared.status.Status.TheVariants as status
use Rattle.opened_cache.specs.Change.{DiskChange, HasWritten}
use Rattle.sessions.specs.Outside.{InputChange, OutputChange}
use Rattle.command_status.specs.Statuses.{status_of_input, status_of_opening}
use Rattle.tile_service.specs.Lines.{lines_of}
use Rattle.twin_events.specs.Twins.{LeadsBy}
use Rattle.twin_lines.specs.declared.lines.Halt.{Halt}
use Rattle.twin_lines.specs.declared.lines.Halt.TheVariants as halt
use Rattle.twin_lines.specs.declared.order.TwinOrder.TheVariants as order
use Rattle.twin_lines.specs.declared.order.LinkSide.{LinkSide}
use Rattle.twin_lines.specs.Ends.{AreOrdered, DiskPassage, Ends, IsAmong, passage}
use Rattle.twin_lines.specs.Orders.{order_in}
use Rattle.twin_lines.specs.Steps.{AreTrue, Follow, IsLater, MayEndAlong, MayOpenAlong, TwinMoment, TwinStep}
use Rattle.twin_lines.specs.Texts.{answers_from}
use Rattle.twin_words.specs.Ends.{IsText, IsTooLong, RefusesAgain}
use Rattle.twin_words.specs.Opens.{GoesFurther, IsLeftFor, LeavesTwin}

-- A part of a run: from s these lines came to these steps, which led to `reached`, and what happened in a line at which memory ran out led
-- from there to t. At every moment an image of the cache is left for the cabinet of s. A cabinet whose journal was settled, and that was
-- sound, is so then, and its tiles were true, unless its disk failed.
pub record TwinPart (c : Catalogue) (source : Option ℕ) (d m o : DiskPassage) (settled then_settled : Type 0) (s reached t : TwinMoment) (lines : List (List ℕ)) (steps : List TwinStep) : Type 0 where
  pub ordered : AreOrdered c lines steps
  pub follow : Follow (d.told && (m.told && o.told)) source s steps reached
  pub more : (events : List LinkEvent) × LeadsBy events reached.stands t.stands
  pub later : IsLater s.faults t.faults
  pub goes : IsTrue d.told → GoesFurther s.stands.cabinet t.stands.cabinet
  pub cache_images : IsTrue d.told → Leaves d.from d.to (IsLeftFor c s.stands.cabinet)
  pub marks_along : IsTrue m.told → Leaves m.from m.to (λ image. MayEndAlong c.digest s.stands.stand steps image ⊎ MayEndIn c.digest t.stands.stand image)
  pub posts_along : IsTrue o.told → Leaves o.from o.to (MayOpenAlong c s.stands.out steps)
  pub sound : source ≡ Some c.source → IsTrue d.told → settled → IsSound s.stands.cabinet → Rose s.faults.cabinet t.faults.cabinet ⊎ (then_settled × IsSound t.stands.cabinet × AreTrue c steps)

-- the counts at the end, behind those of a moment; n is that of the source
pub record IsCounted (t : TwinMoment) (n : ℕ) (d m o : DiskChange) : Type 0 where
  pub source : t.faults.source ≤ n
  pub cache : t.faults.cabinet ≤ d.faults.after
  pub marks : t.faults.marks ≤ m.faults.after
  pub outbox : t.faults.outbox ≤ o.faults.after

-- All the work of a twin from s on, at the end of which it was closed. A stop may have done no more to the disks behind the last moment
-- than openings that were refused do.
pub record TwinWorks (c : Catalogue) (source : Option ℕ) (faults : ℕ) (d m o : DiskChange) (settled : Type 0) (s reached last : TwinMoment) (lines : List (List ℕ)) (steps : List TwinStep) : Type 0 where
  pub part : TwinPart c source (passage d.told d.from d.to) (passage m.told m.from m.to) (passage o.told o.from o.to) settled ⊤ s reached last lines steps
  pub counted : IsCounted last faults d m o
  pub left : LeavesTwin c last.stands d m o

-- the lines of a text, of which the first has the number n, ended so
abbrev pub WorksTo : Catalogue → Option ℕ → ℕ → DiskChange → DiskChange → DiskChange → Type 0 → OutputChange → ℕ → List ℕ → TwinMoment → Halt → Type 0
WorksTo c source faults d m o settled w n text s e =
    (steps : List TwinStep) × (reached : TwinMoment) × (last : TwinMoment) × (lines : List (List ℕ)) × TwinWorks c source faults d m o settled s reached last lines steps × Ends c n text w steps reached last e

-- they ran to one that orders a stop, and a file was refused then
pub record StopsAt (c : Catalogue) (source : Option ℕ) (faults : ℕ) (d m o : DiskChange) (settled : Type 0) (w : OutputChange) (n : ℕ) (text : List ℕ) (s : TwinMoment) (cause : OpenFault) : Type 0 where
  pub before : List (List ℕ)
  pub steps : List TwinStep
  pub last : TwinMoment
  pub works : TwinWorks c source faults d m o settled s last last before steps
  pub line : List ℕ
  pub among : IsAmong (lines_of text) before line
  pub which : LinkSide
  pub stops : order_in c line ≡ Some (order.Stop which)
  pub written : HasWritten w (answers_from n steps)
  pub refused : RefusesAgain c d m o last which cause

abbrev pub RunsRefused : Catalogue → Option ℕ → ℕ → DiskChange → DiskChange → DiskChange → Type 0 → OutputChange → ℕ → List ℕ → TwinMoment → Status → Type 0
RunsRefused c source faults d m o settled w n text s e = (cause : OpenFault) × (e ≡ status_of_opening cause) × StopsAt c source faults d m o settled w n text s cause

-- the end of lines that ended so; a stop ends none
abbrev pub IsEndOf : Halt → Status → Type 0
IsEndOf halt.Done e = e ≡ status.Done
IsEndOf (halt.Line k) e = e ≡ status.Line k
IsEndOf halt.WriteFault e = e ≡ status.WriteFault
IsEndOf halt.OutOfMemory e = e ≡ status.OutOfMemory
IsEndOf (halt.Stop which k rest) e = ⊥

abbrev pub RunsLines : Catalogue → Option ℕ → ℕ → DiskChange → DiskChange → DiskChange → Type 0 → OutputChange → ℕ → List ℕ → TwinMoment → Status → Type 0
RunsLines c source faults d m o settled w n text s e = (h : Halt) × IsEndOf h e × WorksTo c source faults d m o settled w n text s h

-- a text was run, and ended so
abbrev pub RunsText : Catalogue → Option ℕ → ℕ → DiskChange → DiskChange → DiskChange → Type 0 → OutputChange → ℕ → List ℕ → TwinMoment → Status → Type 0
RunsText c source faults d m o settled w n text s e = RunsRefused c source faults d m o settled w n text s e ⊎ RunsLines c source faults d m o settled w n text s e

-- the lines of a text, of which the first has the number n, were run to a stop, and that too: what is left of the text stands behind it
pub record RunsOn (c : Catalogue) (source : Option ℕ) (d m o : DiskChange) (settled then_settled : Type 0) (w : OutputChange) (n : ℕ) (text : List ℕ) (s t : TwinMoment) (line : ℕ) (rest : List ℕ) : Type 0 where
  pub before : List (List ℕ)
  pub steps : List TwinStep
  pub part : TwinPart c source (passage d.told d.from d.to) (passage m.told m.from m.to) (passage o.told o.from o.to) settled then_settled s t t before steps
  pub split : lines_of text ≡ before ++ lines_of rest
  pub counted : line ≡ n + length before
  pub written : HasWritten w (answers_from n steps)

-- no line was run
pub record RunsNone (c : Catalogue) (source : Option ℕ) (faults : ℕ) (d m o : DiskChange) (settled : Type 0) (s : TwinMoment) (OutputStays SourceStays : Type 0) : Type 0 where
  pub works : TwinWorks c source faults d m o settled s s s [] []
  pub quiet_output : OutputStays
  pub quiet_source : SourceStays

-- why an input wasn't read to its end
abbrev pub IsUnread : InputChange → InputEnd → Type 0
IsUnread i input_end.ReadFault = Rose i.reads.before i.reads.after
IsUnread i input_end.TooLong = IsTooLong i
IsUnread i input_end.OutOfMemory = ⊤

-- the input was read and its text was run, or it wasn't read
abbrev pub RunsInput : Catalogue → Option ℕ → ℕ → DiskChange → DiskChange → DiskChange → Type 0 → InputChange → OutputChange → TwinMoment → Type 0 → Type 0 → Status → Type 0
RunsInput c source faults d m o settled i w s OutputStays SourceStays e =
    ((text : List ℕ) × IsText i text × RunsText c source faults d m o settled w 1 text s e)
    ⊎ (RunsNone c source faults d m o settled s OutputStays SourceStays × ((why : InputEnd) × (e ≡ status_of_input why) × IsUnread i why))

-- how many bytes lines have, with the end of each
abbrev pub weight : List (List ℕ) → ℕ
weight [] = 0
weight (line ∷ lines) = length line + 1 + weight lines
