-- What a schedule keeps is the pictures of its numbers, also once the actors that were busy have given up.
use Rattle.std.proofs.Common.{ℕ, ◌≡◌, List, [], ◌∷◌, Option, Some, None, fold, sym, subst}
use Rattle.cabinet.specs.State.{IsSound, State}
use Rattle.cache_core.specs.declared.actor.Actor.{Actor}
use Rattle.cache_core.specs.declared.actor.Actor.TheVariants as actor
use Rattle.cache_core.specs.Steps.{given_up, off}
use Rattle.metatile_locks.specs.declared.render.Render.{Render}
use Rattle.metatile_locks.specs.Tickets.{Ticketed}
use Rattle.tile_requests.specs.Requests.{Chance}
use Rattle.tile_service.specs.declared.run_lines.RunEnd.{RunEnd}
use Rattle.tile_service.specs.declared.run_lines.RunEnd.TheVariants as run_end
use Rattle.tile_service.specs.declared.schedule.ScheduleEnd.{ScheduleEnd}
use Rattle.tile_service.specs.declared.schedule.ScheduleEnd.TheVariants as schedule
use Rattle.sessions.specs.Outside.{InputChange, Outside}
use Rattle.tile_service.specs.Run.{PendingRequest, RunState, left_by, run}
use Rattle.tile_service.specs.Schedules.{Ends, HasRunAll, Schedules}

-- who gives up keeps and drops no blob
off_sound : (s : State) (t : Ticketed) (r : Option Render) → IsSound s → IsSound (off s t r)
off_sound s t None sound = sound
off_sound s t (Some r) sound = sound

up_sound : (s : State) (a : Actor) → IsSound s → IsSound (given_up s a)
up_sound s actor.Idle sound = sound
up_sound s (actor.Waiting a force) sound = sound
up_sound s (actor.Holding t a) sound = off_sound s t _ sound
up_sound s (actor.Rendered t text tile) sound = off_sound s t _ sound
up_sound s (actor.Failed t) sound = off_sound s t _ sound

left_sound : (s : State) (b : Option PendingRequest) → IsSound s → IsSound (left_by s b)
left_sound s None sound = sound
left_sound s (Some b) sound = up_sound s b.actor sound

all_left_sound : (s : State) (busy : List (Option PendingRequest)) → IsSound s → IsSound (fold left_by s busy)
all_left_sound s [] sound = sound
all_left_sound s (b ∷ busy) sound = all_left_sound (left_by s b) busy (left_sound s b sound)

module _ (i : InputChange) (o : Outside) (w t : RunState) where
  ran_to : (lines : List (List ℕ)) (chances : List Chance) (last : RunState) (e : RunEnd) → Ends o w lines chances last e → last ≡ (run w 1 lines chances).world
  ran_to lines chances last run_end.Done h = h.1
  ran_to lines chances last (run_end.Line n) h = h.1
  ran_to lines chances last run_end.WriteFault h = h.0

  all_sound : (e : RunEnd) → HasRunAll i o w t e → o.told ≡ Some w.cabinet.catalogue.source → IsSound w.cabinet → IsSound t.cabinet
  all_sound e h told sound =
      let last : IsSound h.last.cabinet = subst (λ (x : RunState). IsSound x.cabinet) (sym (ran_to h.ran.lines h.ran.chances h.last e h.ran.ends)) (h.ran.upheld.sound told sound) in
      subst (λ (x : RunState). IsSound x.cabinet) (sym h.closes) (all_left_sound h.last.cabinet h.last.seats last)

  pub schedule_sound : (U : Type 0) → (U → t.cabinet ≡ w.cabinet) → (e : ScheduleEnd) → Schedules i o U w t e → o.told ≡ Some w.cabinet.catalogue.source → IsSound w.cabinet → IsSound t.cabinet
  schedule_sound U same schedule.Done h told sound = all_sound run_end.Done h told sound
  schedule_sound U same (schedule.Line n) h told sound = all_sound (run_end.Line n) h told sound
  schedule_sound U same schedule.WriteFault h told sound = all_sound run_end.WriteFault h told sound
  schedule_sound U same schedule.ReadFault h told sound = subst IsSound (sym (same h.1)) sound
  schedule_sound U same schedule.TooLong h told sound = subst IsSound (sym (same h.1)) sound
  schedule_sound U same schedule.OutOfMemory h told sound = subst IsSound (sym (same h)) sound
