-- How the lines of a twin end, and what each end says.
use Rattle.std.specs.Prelude.{ℕ, ◌≡◌, ◌⊎◌, ◌+◌, ◌≤◌, IsTrue, Bool, List, [], ◌∷◌, ◌++◌, length, map, Option, Some, None, ⊤}
use Rattle.cabinet.specs.State.{IsSound}
use Rattle.catalog.specs.declared.catalogue.Catalogue.{Catalogue}
use Rattle.base.specs.Causes.{Rose}
use Rattle.change_feed.specs.Files.{MayEndIn}
use Rattle.disk_model.specs.Images.{DiskState, Leaves}
use Rattle.opened_cache.specs.Change.{HasWritten}
use Rattle.sessions.specs.Outside.{OutputChange}
use Rattle.tile_requests.specs.Sent.{AppendsPart}
use Rattle.tile_service.specs.Lines.{lines_of}
use Rattle.twin_events.specs.Carries.{IsOutside}
use Rattle.twin_events.specs.Twins.{TwinStanding}
use Rattle.twin_lines.specs.declared.lines.Halt.{Halt}
use Rattle.twin_lines.specs.declared.lines.Halt.TheVariants as halt
use Rattle.twin_lines.specs.declared.order.TwinOrder.{TwinOrder}
use Rattle.twin_lines.specs.declared.order.TwinOrder.TheVariants as order
use Rattle.twin_lines.specs.Orders.{order_in}
use Rattle.twin_lines.specs.Steps.{AreTrue, Follow, IsLater, MayEndAlong, MayOpenAlong, Starves, TwinMoment, TwinStep, order_of}
use Rattle.twin_lines.specs.Texts.{answer_text, answers_from}

-- each line gives the order that its step answers, and there are no other steps
abbrev pub AreOrdered : Catalogue → List (List ℕ) → List TwinStep → Type 0
AreOrdered c lines steps = map (order_in c) lines ≡ map (λ step. Some (order_of step.answer)) steps

-- what was read is no event of a lossy link: it is no order, or one to carry from a place at which nothing was sent
abbrev pub IsNoEvent : Option TwinOrder → TwinStanding → Type 0
IsNoEvent read s = (read ≡ None) ⊎ ((place : ℕ) × (read ≡ Some (order.Carry place)) × IsOutside place s.sent)

-- these lines stand before the line, and others after it
abbrev pub IsAmong : List (List ℕ) → List (List ℕ) → List ℕ → Type 0
IsAmong lines before line = (rest : List (List ℕ)) × (lines ≡ before ++ line ∷ rest)

-- all that the steps before the last write went out, and of what the last one writes a front, and not all of it; a write failed
pub record IsCutInLast (first : ℕ) (o : OutputChange) (steps : List TwinStep) : Type 0 where
  pub before : List TwinStep
  pub last : TwinStep
  pub whole : steps ≡ before ++ last ∷ []
  pub sent : AppendsPart o.from o.to (answers_from first before) (answer_text (first + length before) last.answer)
  pub failed : Rose o.writes.before o.writes.after

-- behind the steps memory ran out in a line
pub record RunsShort (s t : TwinMoment) : Type 0 where
  pub starves : Starves s.stands t.stands
  pub later : IsLater s.faults t.faults

-- Which lines have a step, by the end, what was written, and the moment t at the end, by the moment s that the steps lead to. All of
-- them; those before the first that orders a stop, behind which the rest of the text stands; those before the first that is no event;
-- those up to one whose answer was cut short; those before one in which memory ran out.
abbrev pub Ends : Catalogue → ℕ → List ℕ → OutputChange → List TwinStep → TwinMoment → TwinMoment → Halt → Type 0
Ends c first text o steps s t halt.Done = AreOrdered c (lines_of text) steps × HasWritten o (answers_from first steps) × (t ≡ s)
Ends c first text o steps s t (halt.Stop which n rest) =
    (before : List (List ℕ)) × (line : List ℕ) × (lines_of text ≡ before ++ line ∷ lines_of rest.now) × AreOrdered c before steps × (n ≡ first + length before) × (order_in c line ≡ Some (order.Stop which)) × HasWritten o (answers_from first steps) × (t ≡ s)
Ends c first text o steps s t (halt.Line n) =
    (before : List (List ℕ)) × (line : List ℕ) × IsAmong (lines_of text) before line × AreOrdered c before steps × (n ≡ first + length before) × IsNoEvent (order_in c line) s.stands × HasWritten o (answers_from first steps) × (t ≡ s)
Ends c first text o steps s t halt.WriteFault =
    (before : List (List ℕ)) × (line : List ℕ) × IsAmong (lines_of text) before line × AreOrdered c (before ++ line ∷ []) steps × IsCutInLast first o steps × (t ≡ s)
Ends c first text o steps s t halt.OutOfMemory =
    (before : List (List ℕ)) × (line : List ℕ) × IsAmong (lines_of text) before line × AreOrdered c before steps × HasWritten o (answers_from first steps) × RunsShort s t

-- each line takes a byte at least, so that the lines behind a stop can be counted on
abbrev pub CanGoOn : ℕ → List ℕ → Halt → Type 0
CanGoOn first text halt.Done = ⊤
CanGoOn first text (halt.Stop which n rest) = n + 1 + length rest.now ≤ first + length text
CanGoOn first text (halt.Line n) = ⊤
CanGoOn first text halt.WriteFault = ⊤
CanGoOn first text halt.OutOfMemory = ⊤

-- a disk over a call: whether it is modelled, and its state before and after
pub record DiskPassage : Type 1 where
  pub told : Bool
  pub from : DiskState
  pub to : DiskState

abbrev pub passage : Bool → DiskState → DiskState → DiskPassage
passage told from to = record { told = told; from = from; to = to }

-- From s the lines of a text, of which the first has the number `first`, led to t, and ended so: by steps that follow from s, whether the
-- disks are modelled or not, for none of them is a stop. `source` is what is modelled of the source; where it is the catalogue's, and all
-- that the cabinet keeps is true, so are the tiles, and what it keeps then. At every moment an image of the marks ends in a mark of a
-- stand along the steps, and one of the outbox opens to posts along them.
pub record HasRunLines (c : Catalogue) (source : Option ℕ) (digest : List ℕ) (marks outbox : DiskPassage) (o : OutputChange) (first : ℕ) (text : List ℕ) (s t : TwinMoment) (end : Halt) : Type 0 where
  pub steps : List TwinStep
  pub reached : TwinMoment
  pub follow : (told : Bool) → Follow told source s steps reached
  pub ends : Ends c first text o steps reached t end
  pub truth : source ≡ Some c.source → IsSound s.stands.cabinet → AreTrue c steps
  pub still_sound : source ≡ Some c.source → IsSound s.stands.cabinet → IsSound t.stands.cabinet
  pub marks_along : IsTrue marks.told → Leaves marks.from marks.to (λ image. MayEndAlong digest s.stands.stand steps image ⊎ MayEndIn digest t.stands.stand image)
  pub posts_along : IsTrue outbox.told → Leaves outbox.from outbox.to (MayOpenAlong c s.stands.out steps)
