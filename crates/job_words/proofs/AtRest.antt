-- A cabinet in which no render runs: a metatile that is refreshed there has its outcome after three events, and no visit leaves a render
-- running.
use Rattle.std.specs.Prelude.{Result, Ok, Err}
use Rattle.std.specs.declared.alloc.AllocError.{AllocError}
use Rattle.std.proofs.Common.{◌≡◌, ℕ, Bool, true, false, [], ◌∷◌, Option, Some, None, refl, sym, ap, subst}
use Rattle.cabinet.specs.Commands.{answering}
use Rattle.cabinet.specs.declared.entry.HistoryEntry.TheVariants as entry
use Rattle.cabinet.specs.declared.kept.Kept.{Kept}
use Rattle.cabinet.specs.declared.replies.CutReply.{CutReply}
use Rattle.cabinet.specs.History.{next}
use Rattle.cabinet.specs.State.{State, asked_at, now, with_entry}
use Rattle.cache_access.proofs.Resting.{asked_rests, cut_rests as made_rests}
use Rattle.cache_core.specs.declared.outcome.TileOutcome as cached
use Rattle.cache_core.specs.declared.outcome.TileOutcome.TheVariants as core
use Rattle.cache_core.specs.Steps.{began, blob_of, ends, given, render_wanted, rendered, ticket_for, unless_busy, unless_kept, unless_unread}
use Rattle.job_words.specs.Visit.{Chances, CutsOnce, refreshed}
use Rattle.matrix_geometry.specs.declared.address.Address.{Address}
use Rattle.metatile_locks.specs.Running.{running_for, unmarked}
use Rattle.metatile_plan.specs.declared.metatile.MetaKey.{MetaKey}
use Rattle.raster_field.specs.Blocks.{block_of, first_tile}
use Rattle.tile_requests.specs.Requests.{Chance, further}
use Rattle.tile_service.specs.Session.{IsAtRest}
use Rattle.tile_service.proofs.AtRest.{IsDone, abandoned_rests, finished_rests, started_runs, used_rests}
use Rattle.truncation_list.specs.declared.cover.Cover.{Cover}

-- A METATILE

abbrev done_at : (s : State) (o : cached.TileOutcome) → IsAtRest s → IsDone (ends s o)
done_at s o rest = record { told = o; is = refl; idle = refl; rests = rest }

module _ (a : Address) (force : Bool) (c d : Chance) where
  -- the render of a number that was given, and its end
  rendered_done : (s : State) (k n : ℕ) → (now s).out ≡ unmarked k (block_of s.catalogue a) n ∷ [] → (left : Bool) (bytes : Option (ℕ → ℕ)) → IsDone (further d (rendered s (ticket_for s a k) a left bytes))
  rendered_done s k n one false bytes = done_at _ core.NoMemory (abandoned_rests s k (block_of s.catalogue a) n one)
  rendered_done s k n one true None = done_at _ core.SourceFailed (abandoned_rests s k (block_of s.catalogue a) n one)
  rendered_done s k n one true (Some bytes) = done_at _ _ (finished_rests s k (block_of s.catalogue a) n one (blob_of s.catalogue (block_of s.catalogue a) bytes) d.unwritten)

  given_done : (s : State) (n : Option ℕ) → IsAtRest s → IsDone (further d (further c (given s a n)))
  given_done s None rest = done_at s core.Spent rest
  given_done s (Some k) rest = rendered_done (with_entry s (entry.Started k (block_of s.catalogue a))) k (now s).moment (started_runs s k (block_of s.catalogue a) rest) c.work c.bytes

  wanted_done : (s : State) → IsAtRest s → IsDone (further d (further c (render_wanted s a force)))
  wanted_done s rest = subst (λ n. IsDone (further d (further c (unless_busy s a force n)))) (sym (ap (running_for (block_of s.catalogue a)) rest)) (given_done s (next s.opening (now s)) rest)

module _ (a : Address) (c d : Chance) where
  kept_done : (s : State) (bytes : Option (ℕ → ℕ)) (t : Option Kept) → IsAtRest s → IsDone (further d (further c (unless_kept s a bytes t)))
  kept_done s bytes (Some t) rest = done_at _ _ (used_rests s (block_of s.catalogue a) rest)
  kept_done s bytes None rest = wanted_done a false c d s rest

  began_done : (s : State) (force left : Bool) (n : ℕ) (unread : Bool) (bytes : Option (ℕ → ℕ)) → IsAtRest s → IsDone (further d (further c (began s a force left n unread bytes)))
  began_done s force false n unread bytes rest = done_at s core.NoMemory rest
  began_done s true true n unread bytes rest = wanted_done a true c d (asked_at n s) (asked_rests s n rest)
  began_done s false true n unread bytes rest = kept_done (asked_at n s) bytes (unless_unread unread (answering (asked_at n s) a)) (asked_rests s n rest)

pub refreshed_done : (force : Bool) (s : State) (m : MetaKey) (c : Chances) → IsAtRest s → IsDone (refreshed force s m c)
refreshed_done force s m c rest = began_done (first_tile s.catalogue m) c.rendering c.ending s force c.asking.ask c.asking.moment c.asking.unread c.asking.bytes rest

-- A CUT

pub cut_rests : (s : State) (cover : Cover) (reply : Result CutReply AllocError) (u : State) → CutsOnce s cover reply u → IsAtRest s → IsAtRest u
cut_rests s cover (Ok reply) u row rest = made_rests s u rest cover reply row
cut_rests s cover (Err failed) u row rest = subst IsAtRest (sym row) rest
