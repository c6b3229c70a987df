-- What one line of a twin comes to.
-- A tie between the code and its definitions: the promise can be read without it.
use Rattle.std.specs.Prelude.{◌≡◌, ◌⊎◌, ℕ, Bool, IsTrue, List, Option, Some}
use Rattle.cabinet.specs.State.{IsSound}
use Rattle.catalog.specs.declared.catalogue.Catalogue.{Catalogue}
use Rattle.change_feed.specs.Files.{MayEndIn}
use Rattle.disk_model.specs.Images.{Leaves}
use Rattle.opened_cache.specs.Change.{HasWritten, IsCutShort}
use Rattle.sessions.specs.Outside.{OutputChange}
use Rattle.outbox.specs.Files.{MayOpenTo}
use Rattle.twin_lines.specs.declared.line_end.TwinLineEnd.{TwinLineEnd}
use Rattle.twin_lines.specs.declared.line_end.TwinLineEnd.TheVariants as line_end
use Rattle.twin_lines.specs.declared.order.TwinOrder.{TwinOrder}
use Rattle.twin_lines.specs.declared.order.TwinOrder.TheVariants as order
use Rattle.twin_lines.specs.Ends.{DiskPassage, IsNoEvent, RunsShort}
use Rattle.twin_lines.specs.Steps.{IsLater, MayOpenWhile, Runs, TwinAnswer, TwinMoment, order_of}
use Rattle.twin_lines.specs.Texts.{answer_text}

-- a text went out whole, or a front of it, and then a write failed
abbrev pub IsToldAs : OutputChange → List ℕ → TwinLineEnd → Type 0
IsToldAs o text line_end.Told = HasWritten o text
IsToldAs o text line_end.WriteFault = IsCutShort o text
IsToldAs o text (line_end.Stop which) = ⊥
IsToldAs o text line_end.Refused = ⊥
IsToldAs o text line_end.OutOfMemory = ⊥

-- what was read is the order that this answers
pub record IsLineAnswered (c : Catalogue) (source : Option ℕ) (outbox : DiskPassage) (read : Option TwinOrder) (s : TwinMoment) (answer : TwinAnswer) (t : TwinMoment) : Type 0 where
  pub asked : read ≡ Some (order_of answer)
  pub runs : (told : Bool) → Runs told source s answer t
  pub posts : IsTrue outbox.told → Leaves outbox.from outbox.to (MayOpenWhile c s.stands.out answer)

-- the posts stay, and so does the output
pub record IsQuiet (c : Catalogue) (outbox : DiskPassage) (s : TwinMoment) (OutputStays : Type 0) : Type 0 where
  pub posts : IsTrue outbox.told → Leaves outbox.from outbox.to (MayOpenTo c s.stands.out)
  pub output : OutputStays

-- what was read was answered, and the answer was told; or it is for another to do, or no event; or memory ran out
abbrev pub RunsOrder : Catalogue → Option ℕ → DiskPassage → Option TwinOrder → ℕ → OutputChange → Type 0 → TwinMoment → TwinMoment → TwinLineEnd → Type 0
RunsOrder c source outbox read n o OutputStays s t line_end.Told = (answer : TwinAnswer) × IsLineAnswered c source outbox read s answer t × HasWritten o (answer_text n answer)
RunsOrder c source outbox read n o OutputStays s t line_end.WriteFault = (answer : TwinAnswer) × IsLineAnswered c source outbox read s answer t × IsCutShort o (answer_text n answer)
RunsOrder c source outbox read n o OutputStays s t (line_end.Stop which) = (read ≡ Some (order.Stop which)) × (t ≡ s) × IsQuiet c outbox s OutputStays
RunsOrder c source outbox read n o OutputStays s t line_end.Refused = IsNoEvent read s.stands × (t ≡ s) × IsQuiet c outbox s OutputStays
RunsOrder c source outbox read n o OutputStays s t line_end.OutOfMemory = RunsShort s t × IsQuiet c outbox s OutputStays

-- From s to t: at every moment an image of the marks ends in a mark of either stand; no count falls; and the cabinet is sound where it was.
pub record GoesTo (c : Catalogue) (source : Option ℕ) (digest : List ℕ) (marks : DiskPassage) (s t : TwinMoment) : Type 0 where
  pub images : IsTrue marks.told → Leaves marks.from marks.to (λ image. MayEndIn digest s.stands.stand image ⊎ MayEndIn digest t.stands.stand image)
  pub later : IsLater s.faults t.faults
  pub still_sound : source ≡ Some c.source → IsSound s.stands.cabinet → IsSound t.stands.cabinet
