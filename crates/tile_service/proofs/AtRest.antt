-- A cabinet in which no render runs: a GET of a tile has its outcome there in one line, and no command of it leaves a render running.
use Rattle.std.proofs.Common.{◌≡◌, ℕ, Bool, true, false, List, [], ◌∷◌, ◌++◌, length, Option, Some, None, refl, sym, ap, ◌∙◌, subst, if◌then◌else◌}
use Rattle.std.specs.Prelude.{nat_le, nat_lt}
use Rattle.std.proofs.lemmas.Bool.{eq-eqb}
use Rattle.cabinet.specs.Commands.{answering, book_before, kept_at, others, place_for}
use Rattle.cabinet.specs.Counted.{scope_exceeded, victim_in}
use Rattle.cabinet.specs.declared.entry.HistoryEntry.TheVariants as entry
use Rattle.cabinet.specs.declared.kept.Kept.{Kept}
use Rattle.cabinet.specs.Hits.{hits_of}
use Rattle.cabinet.specs.History.{next, stored_entry}
use Rattle.cabinet.specs.State.{State, asked_at, now, with_entry}
use Rattle.cache_access.proofs.Resting.{asked_rests, runs_after}
use Rattle.cache_core.specs.declared.actor.Actor.TheVariants.{Idle}
use Rattle.cache_core.specs.declared.outcome.TileOutcome as cached
use Rattle.cache_core.specs.declared.outcome.TileOutcome.TheVariants as core
use Rattle.cache_core.specs.Steps.{Stepped, abandoned, began, blob_of, ended, ends, finished, given, off, render_wanted, rendered, stored, ticket_for, unless_busy, unless_kept, unless_unread, with_room}
use Rattle.catalog.specs.declared.catalogue.Scope.{Scope}
use Rattle.matrix_geometry.specs.declared.address.Address.{Address}
use Rattle.metatile_locks.specs.Running.{overtaken, render_of, running_for, unmarked, without}
use Rattle.metatile_locks.specs.Tickets.{Ticketed}
use Rattle.metatile_plan.specs.declared.metatile.MetaKey.{MetaKey}
use Rattle.metatile_plan.proofs.Same.{same_meta_self}
use Rattle.raster_field.specs.Blocks.{block_of}
use Rattle.tile_requests.specs.declared.outcome.Outcome.{Outcome}
use Rattle.tile_requests.specs.declared.outcome.Outcome.TheVariants as outcome
use Rattle.tile_requests.specs.declared.outcome.Plain.TheVariants as plain
use Rattle.tile_requests.specs.declared.request.Mode.TheVariants.{Gets}
use Rattle.tile_requests.specs.Requests.{Chance, further, carried_on, events, cut_at, cut_by, cut, dropped, expired_in, expired}
use Rattle.tile_service.specs.Session.{IsAtRest}
use Rattle.truncation_list.specs.declared.cover.Cover.{Cover}

-- ENTRIES

pub used_rests : (s : State) (m : MetaKey) → IsAtRest s → IsAtRest (with_entry s (entry.Used m))
used_rests s m rest = runs_after s (entry.Used m) None ∙ rest

pub started_runs : (s : State) (k : ℕ) (m : MetaKey) → IsAtRest s → (now (with_entry s (entry.Started k m))).out ≡ unmarked k m (now s).moment ∷ []
started_runs s k m rest = runs_after s (entry.Started k m) None ∙ ap (λ rs. rs ++ unmarked k m (now s).moment ∷ []) rest

-- THE END OF THE ONE RENDER

taken_off : (k : ℕ) (m : MetaKey) (n : ℕ) → without k (unmarked k m n ∷ []) ≡ []
taken_off k m n = rw (eq-eqb k k refl) refl

found : (k : ℕ) (m : MetaKey) (n : ℕ) → render_of (record { number = k; meta = m }) (unmarked k m n ∷ []) ≡ Some (unmarked k m n)
found k m n = rw (eq-eqb k k refl, same_meta_self m) refl

module _ (s : State) (k : ℕ) (m : MetaKey) (n : ℕ) (one : (now s).out ≡ unmarked k m n ∷ []) where
  abbrev ticket : Ticketed
  ticket = record { number = k; meta = m }

  none_left : without k (now s).out ≡ []
  none_left = ap (without k) one ∙ taken_off k m n

  it_runs : render_of ticket (now s).out ≡ Some (unmarked k m n)
  it_runs = ap (render_of ticket) one ∙ found k m n

  ended_rests : IsAtRest (with_entry s (entry.Ended k))
  ended_rests = runs_after s (entry.Ended k) None ∙ none_left

  stored_rests : (text : List ℕ) (place : Option ℕ) (unwritten : Bool) → IsAtRest (stored s ticket n text place unwritten)
  stored_rests text None unwritten = ended_rests
  stored_rests text (Some place) true = ended_rests
  stored_rests text (Some place) false = runs_after s (stored_entry (kept_at ticket n place (length text))) None ∙ none_left

  with_room_rests : (text : List ℕ) (unwritten full : Bool) → IsAtRest (with_room s ticket n text unwritten full)
  with_room_rests text unwritten true = ended_rests
  with_room_rests text unwritten false = stored_rests text (place_for s (length text)) unwritten

  pub abandoned_rests : IsAtRest (abandoned s ticket)
  abandoned_rests = subst (λ r. IsAtRest (off s ticket r)) (sym it_runs) ended_rests

  pub finished_rests : (text : List ℕ) (unwritten : Bool) → IsAtRest (finished s ticket text unwritten)
  finished_rests text unwritten = subst (λ r. IsAtRest (ended s ticket text unwritten r)) (sym it_runs) (with_room_rests text unwritten (nat_le s.catalogue.kept_limit (others s m)))

-- A GET

-- the request has an outcome, its actor holds nothing more, and no render runs
pub record IsDone (r : Stepped) : Type 0 where
  pub told : cached.TileOutcome
  pub is : r.outcome ≡ Some told
  pub idle : r.actor ≡ Idle
  pub rests : IsAtRest r.cabinet

abbrev done_at : (s : State) (o : cached.TileOutcome) → IsAtRest s → IsDone (ends s o)
done_at s o rest = record { told = o; is = refl; idle = refl; rests = rest }

module _ (a : Address) (c : Chance) where
  -- the render of a number that was given, and its end
  rendered_done : (s : State) (k n : ℕ) → (now s).out ≡ unmarked k (block_of s.catalogue a) n ∷ [] → (left : Bool) (bytes : Option (ℕ → ℕ)) → IsDone (further c (rendered s (ticket_for s a k) a left bytes))
  rendered_done s k n one false bytes = done_at _ core.NoMemory (abandoned_rests s k (block_of s.catalogue a) n one)
  rendered_done s k n one true None = done_at _ core.SourceFailed (abandoned_rests s k (block_of s.catalogue a) n one)
  rendered_done s k n one true (Some bytes) = done_at _ _ (finished_rests s k (block_of s.catalogue a) n one (blob_of s.catalogue (block_of s.catalogue a) bytes) c.unwritten)

  given_done : (s : State) (n : Option ℕ) → IsAtRest s → IsDone (carried_on c (given s a n))
  given_done s None rest = done_at s core.Spent rest
  given_done s (Some k) rest = rendered_done (with_entry s (entry.Started k (block_of s.catalogue a))) k (now s).moment (started_runs s k (block_of s.catalogue a) rest) c.work c.bytes

  wanted_done : (s : State) → IsAtRest s → IsDone (carried_on c (render_wanted s a false))
  wanted_done s rest = subst (λ n. IsDone (carried_on c (unless_busy s a false n))) (sym (ap (running_for (block_of s.catalogue a)) rest)) (given_done s (next s.opening (now s)) rest)

  kept_done : (s : State) (bytes : Option (ℕ → ℕ)) (t : Option Kept) → IsAtRest s → IsDone (carried_on c (unless_kept s a bytes t))
  kept_done s bytes (Some t) rest = done_at _ _ (used_rests s (block_of s.catalogue a) rest)
  kept_done s bytes None rest = wanted_done s rest

  began_done : (s : State) (left : Bool) (n : ℕ) (unread : Bool) (bytes : Option (ℕ → ℕ)) → IsAtRest s → IsDone (carried_on c (began s a false left n unread bytes))
  began_done s false n unread bytes rest = done_at s core.NoMemory rest
  began_done s true n unread bytes rest = kept_done (asked_at n s) bytes (unless_unread unread (answering (asked_at n s) a)) (asked_rests s n rest)

  -- where no render runs, a GET has its outcome in one line
  pub get_done : (s : State) → IsAtRest s → IsDone (events Gets s a c)
  get_done s rest = began_done s c.ask c.moment c.unread c.bytes rest

-- COMMANDS

-- no render runs after it
abbrev pub RestsAfter : State × Outcome → Type 0
RestsAfter done = IsAtRest done.0

cut_at_rests : (s : State) (cover : Cover) (t : ℕ) (unwritten : Bool) → IsAtRest s → RestsAfter (cut_at s cover t unwritten)
cut_at_rests s cover t true rest = runs_after s (entry.Missed t) None ∙ rest
cut_at_rests s cover t false rest = runs_after s (entry.Cut t cover) None ∙ ap (overtaken (hits_of s.catalogue cover) t) rest

cover_rests : (s : State) (cover : Cover) (unwritten : Bool) (n : Option ℕ) → IsAtRest s → RestsAfter (cut_by s cover unwritten n)
cover_rests s cover unwritten None rest = rest
cover_rests s cover unwritten (Some t) rest = chosen (nat_lt (length (book_before s cover).cuts) s.catalogue.cut_limit)
  where
    chosen : (b : Bool) → RestsAfter (if b then cut_at s cover t unwritten else (s, outcome.Plain plain.CutsFull))
    chosen true = cut_at_rests s cover t unwritten rest
    chosen false = rest

pub cut_rests : (s : State) (cover : Cover) (left unwritten : Bool) → IsAtRest s → RestsAfter (cut s cover left unwritten)
cut_rests s cover true unwritten rest = cover_rests s cover unwritten (next s.opening (now s)) rest
cut_rests s cover false unwritten rest = rest

dropped_rests : (s : State) (left : Bool) (m : Option MetaKey) → IsAtRest s → RestsAfter (dropped s left m)
dropped_rests s left None rest = rest
dropped_rests s left (Some m) rest = runs_after s (entry.Dropped m) None ∙ rest

scope_rests : (s : State) (left : Bool) (o : Option Scope) (unwritten : Bool) → IsAtRest s → RestsAfter (expired_in s left o unwritten)
scope_rests s left None unwritten rest = rest
scope_rests s left (Some scope) true rest = rest
scope_rests s left (Some scope) false rest = dropped_rests s left (victim_in s scope) rest

pub expired_rests : (s : State) (left unwritten : Bool) → IsAtRest s → RestsAfter (expired s left unwritten)
expired_rests s left unwritten rest = scope_rests s left (scope_exceeded s) unwritten rest
