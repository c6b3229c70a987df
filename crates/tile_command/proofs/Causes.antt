-- The causes of what is refused before the work, and of what a schedule and a session come to.
use Rattle.std.specs.Prelude.{ℕ, ◌≡◌, ◌<◌, ◌≤◌, ◌+◌, ◌++◌, ◌⊎◌, List, [], ◌∷◌, length, Option, Some, None, IfSome, Ok, Err, false, true}
use Rattle.std.specs.Io.KnownBytes.{Consumes, IsAtEnd, prepend_known}
use Rattle.std.proofs.Common.{ap, sym, subst, ◌∙◌, append-nil, inl, inr, refl, arith, length-append}
use Rattle.cabinet.specs.State.{State}
use Rattle.catalog.specs.declared.catalogue.Catalogue.{Catalogue}
use Rattle.catalog.specs.declared.fault.CatalogueFault.{CatalogueFault}
use Rattle.base.specs.Causes.{Rose}
use Rattle.base.specs.Readings.{Readings}
use Rattle.command_setup.specs.declared.configuration.Unconfigured.{Unconfigured}
use Rattle.command_setup.specs.declared.configuration.Unconfigured.TheVariants as unconfigured
use Rattle.command_setup.specs.Setup as setup
use Rattle.command_setup.specs.Setup.{Configures, HasRisen, IsDocument, IsRefused, IsTooLongText}
use Rattle.command_status.specs.declared.status.Status.TheVariants as status
use Rattle.command_words.specs.declared.words.Word.{Word}
use Rattle.http_wire.specs.declared.message.Message.{Message}
use Rattle.http_wire.specs.declared.message.Stop.TheVariants as stop
use Rattle.config_text.specs.Text.{catalogue_of}
use Rattle.opened_cache.specs.Change.{DiskChange}
use Rattle.tile_command.specs.Causes.{BreaksOff, ComesToEnd, HaveLast, IsCaused, IsOver, OfDocument, OfInput, RefusesSo, RunRefuses}
use Rattle.tile_command.specs.Change.{CommandChange}
use Rattle.command_setup.specs.Refusals.{status_of_refusal}
use Rattle.command_status.specs.Statuses.{status_of_schedule, status_of_session}
use Rattle.tile_service.specs.declared.run_lines.RunEnd.{RunEnd}
use Rattle.tile_service.specs.declared.run_lines.RunEnd.TheVariants as run_end
use Rattle.tile_service.specs.declared.schedule.ScheduleEnd.{ScheduleEnd}
use Rattle.tile_service.specs.declared.schedule.ScheduleEnd.TheVariants as schedule_end
use Rattle.sessions.specs.declared.session.SessionEnd.{SessionEnd}
use Rattle.sessions.specs.declared.session.SessionEnd.TheVariants as session_end
use Rattle.tile_requests.specs.Requests.{Chance}
use Rattle.tile_service.specs.Lines.{lines_of}
use Rattle.sessions.specs.Outside.{InputChange, Outside}
use Rattle.tile_service.specs.Run.{RunState, free_seats, run, run_state_of}
use Rattle.tile_service.specs.Schedules.{Ends, GoesThrough, HasRunAll, Schedules}
use Rattle.sessions.specs.SessionEnds.{AreOpen, GoBefore, GoOn, IsClosed, StopsThere}
use Rattle.tile_service.specs.Replays.{HasSession}

-- WHAT A FILE HAD

-- what was read to the end is what the file had
pub whole_text : (P : List ℕ → Type 0) (from to : Option (List ℕ)) (text : List ℕ) → Consumes from to text → IsAtEnd to → P text → IfSome from P
whole_text P None to text read ended h = tt
whole_text P (Some all) None text read ended h = absurd read
whole_text P (Some all) (Some rest) text read ended h = subst P (sym (read ∙ ap (λ r. text ++ r) ended ∙ append-nil text)) h

-- one byte more than the limit was taken
pub over : (limit : ℕ) (from to : Option (List ℕ)) (text : List ℕ) → Consumes from to text → length text ≡ limit + 1 → IfSome from (λ all. limit < length all)
over limit None to text read long = tt
over limit (Some all) None text read long = absurd read
over limit (Some all) (Some rest) text read long = rw (read, length-append text rest) (omega arith)

-- it is the catalogue of its text
abbrev pub IsOf : InputChange → Catalogue → Type 0
IsOf i c = IfSome i.from (λ text. (length text ≤ 1048576) × (catalogue_of text ≡ Ok c))

pub read_in : (i : InputChange) (c : Catalogue) → setup.IsRead i (Ok c) → IsOf i c
read_in i c r = whole_text _ _ _ r.text r.read r.at_end (r.short, r.comes)

-- it is this document
abbrev pub Tells : InputChange → List ℕ → Type 0
Tells i document = IfSome i.from (λ text. (length text ≤ 4194304) × (text ≡ document))

pub document_of : (i : InputChange) (document : List ℕ) → IsDocument i document → Tells i document
document_of i document r = whole_text _ _ _ document r.read r.at_end (r.short, refl)

-- THE REFUSALS before the work

module _ (h : CommandChange) (d : DiskChange) (clock : Readings) (w : Word) where
  faulty : (fault : CatalogueFault) → setup.IsRead h.catalogue (Err fault) → IsCaused h d clock w (status.Catalogue fault)
  faulty fault r = whole_text _ _ _ r.text r.read r.at_end (r.short, r.comes)

  long_catalogue : IsTooLongText h.catalogue → IsCaused h d clock w status.TooLong
  long_catalogue t = inl (over 1048576 _ _ t.0 t.1 t.2)

  -- of a word that takes the catalogue alone, or looks at it first
  pub by_catalogue : (e : Unconfigured) → Configures h.catalogue (Err e) → IsCaused h d clock w (status_of_refusal e)
  by_catalogue unconfigured.ReadFault c = inl c
  by_catalogue unconfigured.TooLong c = long_catalogue c
  by_catalogue (unconfigured.Fault fault) c = faulty fault c
  by_catalogue unconfigured.OutOfMemory c = tt

  -- of a word that takes the capabilities document too
  pub by_both : ((P : Type 0) → P → OfDocument w P) → (Stay : Type 0) (e : Unconfigured) → IsRefused h.catalogue h.capabilities Stay e → IsCaused h d clock w (status_of_refusal e)
  by_both takes Stay unconfigured.ReadFault (inl c) = inl c.0
  by_both takes Stay unconfigured.ReadFault (inr c) = inr (inl (takes _ c.2))
  by_both takes Stay unconfigured.TooLong (inl c) = long_catalogue c.0
  by_both takes Stay unconfigured.TooLong (inr c) = inr (inl (takes _ (c.0, read_in h.catalogue c.0 c.1, over 4194304 _ _ c.2.0 c.2.1 c.2.2)))
  by_both takes Stay (unconfigured.Fault fault) c = faulty fault c.0
  by_both takes Stay unconfigured.OutOfMemory c = tt

-- RUNS

run_whole : (h : CommandChange) (o : Outside) (s : State) (document : List ℕ) (t : RunState) (end : RunEnd) (n : Option ℕ)
    → ((lines : List (List ℕ)) (chances : List Chance) (u : RunState) → Ends o (run_state_of s document free_seats) lines chances u end → (run (run_state_of s document free_seats) 1 lines chances).refused ≡ n)
    → ((all lines : List (List ℕ)) → GoesThrough all end lines → lines ≡ all)
    → HasRunAll h.input o (run_state_of s document free_seats) t end → RunRefuses h o document s n
run_whole h o s document t end n refuses all r = (
  r.ran.chances,
  r.ran.faults,
  whole_text (λ text. (length text ≤ 16777216) × RefusesSo o (run_state_of s document free_seats) (run (run_state_of s document free_seats) 1 (lines_of text) r.ran.chances) n) _ _ r.text r.read r.at_end (
    r.short,
    subst (λ lines. RefusesSo o (run_state_of s document free_seats) (run (run_state_of s document free_seats) 1 lines r.ran.chances) n) (all _ _ r.ran.through) (refuses _ _ _ r.ran.ends, r.ran.upheld),
  ),
)

all_open : (ms : List Message) (m : Message) → AreOpen ms → m.last ≡ false → AreOpen (ms ++ m ∷ [])
all_open [] m h f = (f, tt)
all_open (x ∷ ms) m h f = (h.0, all_open ms m h.1 f)

have_last : (messages : List Message) (held : List ℕ) (m : Message) → GoBefore messages held m → m.last ≡ true → HaveLast messages
have_last messages held m g f = (g.before, m, g.whole, g.go_on, f)

comes_to_end : (i : InputChange) (o : Outside) (document : List ℕ) (s t : State) → HasSession i o document s t session_end.Closed → ComesToEnd i.from
comes_to_end i o document s t x = (x.messages, prepend_known x.held i.to, x.stand, closed x.ends.0)
  where
    closed : IsClosed x.messages x.held (prepend_known x.held i.to) → HaveLast x.messages ⊎ (GoOn x.messages × StopsThere (prepend_known x.held i.to) stop.End)
    closed (inl l) = inl (have_last x.messages x.held l.0 l.1 l.2)
    closed (inr e) = inr e

open_before : (messages : List Message) (held : List ℕ) (m : Message) → GoBefore messages held m → m.last ≡ false → AreOpen messages
open_before messages held m g f = subst AreOpen (sym g.whole) (all_open g.before m g.go_on.all_open f)

module _ (h : CommandChange) (d : DiskChange) (clock : Readings) (w : Word) (takes : (P : Type 0) → P → OfInput w P) where
  read_fails : HasRisen h.input → IsCaused h d clock w status.ReadFault
  read_fails rose = inr (inr (takes _ rose))

  -- a schedule's end
  pub by_schedule : (o : Outside) (s : State) (document : List ℕ)
      → (Rose o.writes.before o.writes.after → Rose h.outside.writes.before h.outside.writes.after)
      → (IsOver 16777216 h.input → IsCaused h d clock w status.TooLong)
      → (RunRefuses h o document s None → IsCaused h d clock w status.Done)
      → ((n : ℕ) → RunRefuses h o document s (Some n) → IsCaused h d clock w (status.Line n))
      → (U : Type 0) (after : RunState) (e : ScheduleEnd) → Schedules h.input o U (run_state_of s document free_seats) after e → IsCaused h d clock w (status_of_schedule e)
  by_schedule o s document writes long through line U after schedule_end.Done x = through (run_whole h o s document after run_end.Done None (λ lines chances u e. e.0) (λ all lines e. e) x)
  by_schedule o s document writes long through line U after (schedule_end.Line n) x = line n (run_whole h o s document after (run_end.Line n) (Some n) (λ lines chances u e. e.0) (λ all lines e. e) x)
  by_schedule o s document writes long through line U after schedule_end.ReadFault x = read_fails x.0
  by_schedule o s document writes long through line U after schedule_end.WriteFault x = writes x.ran.ends.1
  by_schedule o s document writes long through line U after schedule_end.TooLong x = long (over 16777216 _ _ x.0.0 x.0.1 x.0.2)
  by_schedule o s document writes long through line U after schedule_end.OutOfMemory x = tt

  -- a session's end
  pub by_session : (o : Outside) (document : List ℕ) (s t : State)
      → (Rose o.writes.before o.writes.after → Rose h.outside.writes.before h.outside.writes.after)
      → (ComesToEnd h.input.from → IsCaused h d clock w status.Done)
      → ((e : SessionEnd) → BreaksOff h.input.from e → IsCaused h d clock w (status.Stream e))
      → (e : SessionEnd) → HasSession h.input o document s t e → IsCaused h d clock w (status_of_session e)
  by_session o document s t writes through breaks session_end.Closed x = through (comes_to_end h.input o document s t x)
  by_session o document s t writes through breaks session_end.Truncated x = breaks session_end.Truncated (x.messages, prepend_known x.held h.input.to, x.stand, x.ends.0, x.ends.1)
  by_session o document s t writes through breaks (session_end.Bad code) x = breaks (session_end.Bad code) (x.messages, prepend_known x.held h.input.to, x.stand, x.ends.0, x.ends.1)
  by_session o document s t writes through breaks session_end.TooMany x =
      breaks session_end.TooMany (x.messages, prepend_known x.held h.input.to, x.stand, open_before x.messages x.held x.ends.0 x.ends.1 x.ends.2, x.ends.3)
  by_session o document s t writes through breaks session_end.ReadFault x = read_fails x.ends.2
  by_session o document s t writes through breaks session_end.WriteFault x = writes x.ends.3
  by_session o document s t writes through breaks session_end.OutOfMemory x = tt
