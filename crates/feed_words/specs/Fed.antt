-- What the lines of a feed come to, and what a feed that was opened comes to.
-- A tie between the code and its definitions: the promise can be read without it.
use Rattle.std.specs.Prelude.{◌≡◌, ◌⊎◌, ℕ, Bool, IsTrue, List}
use Rattle.cabinet.specs.State.{IsSound}
use Rattle.base.specs.Causes.{Rose}
use Rattle.change_feed.specs.Applies.{Pair}
use Rattle.change_feed.specs.Files.{MayEndIn}
use Rattle.disk_model.specs.Images.{DiskState, Leaves}
use Rattle.sessions.specs.Outside.{InputChange, OutputChange}
use Rattle.command_status.specs.declared.status.Status.{Status}
use Rattle.command_status.specs.declared.status.Status.TheVariants as status
use Rattle.tile_service.specs.Lines.{lines_of}
use Rattle.feed_words.specs.declared.lines.FeedLinesEnd.{FeedLinesEnd}
use Rattle.feed_words.specs.declared.lines.FeedLinesEnd.TheVariants as lines_end
use Rattle.feed_words.specs.Ends.{IsText, IsTooLong}
use Rattle.feed_words.specs.Run.{FeedEndsAs, FeedStep, Follow, IsLeftAs, MayEndAlong}

-- from s the lines of a text led to t by these steps, and ended so
pub record HasRunLines (told : Bool) (digest : List ℕ) (from to : DiskState) (o : OutputChange) (text : List ℕ) (s t : Pair) (e : FeedLinesEnd) : Type 0 where
  pub steps : List FeedStep
  pub last : Pair
  pub follow : Follow s steps last
  pub ends : FeedEndsAs s.cabinet.catalogue (lines_of text) o steps e
  pub left : IsLeftAs last t
  pub images : IsTrue told → Leaves from to (MayEndAlong digest s.stand steps)
  pub still_sound : IsSound s.cabinet → IsSound t.cabinet

-- the input was read, and so were its lines
abbrev pub HasRunText : InputChange → OutputChange → Bool → List ℕ → DiskState → DiskState → Pair → Pair → FeedLinesEnd → Type 0
HasRunText i o told digest from to s t e = (text : List ℕ) × IsText i text × HasRunLines told digest from to o text s t e

-- no line was run
pub record HasRunNone (Stays : Type 0) (told : Bool) (digest : List ℕ) (from to : DiskState) (s t : Pair) : Type 0 where
  pub same : t ≡ s
  pub images : IsTrue told → Leaves from to (MayEndIn digest s.stand)
  pub stays : Stays

abbrev pub RunsInput : InputChange → OutputChange → Type 0 → Bool → List ℕ → DiskState → DiskState → Pair → Pair → Status → Type 0
RunsInput i o Stays told digest from to s t status.Done = HasRunText i o told digest from to s t lines_end.Done
RunsInput i o Stays told digest from to s t (status.Line n) = HasRunText i o told digest from to s t (lines_end.Line n)
RunsInput i o Stays told digest from to s t status.WriteFault = HasRunText i o told digest from to s t lines_end.WriteFault
RunsInput i o Stays told digest from to s t status.ReadFault = Rose i.reads.before i.reads.after × HasRunNone Stays told digest from to s t
RunsInput i o Stays told digest from to s t status.TooLong = IsTooLong i × HasRunNone Stays told digest from to s t
RunsInput i o Stays told digest from to s t status.OutOfMemory = HasRunNone Stays told digest from to s t ⊎ HasRunText i o told digest from to s t lines_end.OutOfMemory
RunsInput i o Stays told digest from to s t (status.Cache cause) = ⊥
RunsInput i o Stays told digest from to s t status.DiskFault = ⊥
RunsInput i o Stays told digest from to s t (status.Form cause) = ⊥
RunsInput i o Stays told digest from to s t status.CutsFull = ⊥
RunsInput i o Stays told digest from to s t (status.Stream session) = ⊥
RunsInput i o Stays told digest from to s t status.Usage = ⊥
RunsInput i o Stays told digest from to s t (status.Catalogue fault) = ⊥
RunsInput i o Stays told digest from to s t status.ListenFault = ⊥
RunsInput i o Stays told digest from to s t status.ThreadFault = ⊥

-- the end of a feed whose lines ended so
abbrev pub end_of_lines : FeedLinesEnd → Status
end_of_lines lines_end.Done = status.Done
end_of_lines (lines_end.Line n) = status.Line n
end_of_lines lines_end.WriteFault = status.WriteFault
end_of_lines lines_end.OutOfMemory = status.OutOfMemory
