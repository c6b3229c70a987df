-- What was run, with the faults of the disk counted over a longer time.
use Rattle.std.proofs.Common.{ℕ, ◌≡◌, ◌≤◌, ◌+◌, ◌^◌, ◌-◌, min, List, arith}
use Rattle.cabinet.specs.State.{State}
use Rattle.base.specs.Causes.{RoseBy}
use Rattle.opened_cache.specs.Saving.{SavesAll}
use Rattle.opened_cache.proofs.Picturing.{saves_sound}
use Rattle.opened_cache.proofs.Within.{rose_within, saved_so}
use Rattle.disk_words.proofs.Picturing.{schedule_sound}
use Rattle.disk_words.specs.Runs.{RunsAndSaves, ServesAndSaves}
use Rattle.tile_service.specs.declared.run_lines.RunEnd.{RunEnd}
use Rattle.tile_service.specs.declared.run_lines.RunEnd.TheVariants as run_end
use Rattle.tile_service.specs.declared.schedule.ScheduleEnd.{ScheduleEnd}
use Rattle.tile_service.specs.declared.schedule.ScheduleEnd.TheVariants as schedule
use Rattle.sessions.specs.declared.session.SessionEnd.{SessionEnd}
use Rattle.tile_requests.specs.Requests.{Chance}
use Rattle.sessions.specs.Outside.{FaultCounts, InputChange, Outside}
use Rattle.tile_service.specs.Run.{RunState, free_seats, run_state_of}
use Rattle.tile_service.specs.Schedules.{Ends, HasRunAll, HasRunSchedule, Schedules, SchedulesThrough}
use Rattle.tile_service.specs.Replays.{HasSession, HasSessionThrough}

-- A SCHEDULE

-- with other counts of the faults of the disk
abbrev pub with_disk : FaultCounts → Outside → Outside
with_disk f o = record { told = o.told; renders = o.renders; disk = f; writes = o.writes; from = o.from; to = o.to }

module _ (i : InputChange) (o : Outside) (f : FaultCounts) (earlier : f.before ≤ o.disk.before) (later : o.disk.after ≤ f.after) where
  ends_within : (w : RunState) (lines : List (List ℕ)) (chances : List Chance) (t : RunState) (e : RunEnd) → Ends o w lines chances t e → Ends (with_disk f o) w lines chances t e
  ends_within w lines chances t run_end.Done h = h
  ends_within w lines chances t (run_end.Line n) h = h
  ends_within w lines chances t run_end.WriteFault h =
      let l = h.2 in (h.0, h.1, record { before = l.before; line = l.line; whole = l.whole; answer = l.answer; answers = l.answers; sent = l.sent })

  run_within : (w : RunState) (text : List ℕ) (t : RunState) (e : RunEnd) → HasRunSchedule o w text t e → HasRunSchedule (with_disk f o) w text t e
  run_within w text t e h = record {
    lines = h.lines;
    chances = h.chances;
    through = h.through;
    ends = ends_within w h.lines h.chances t e h.ends;
    faults = rose_within _ f.before o.disk.before o.disk.after f.after earlier later h.faults;
    upheld = h.upheld;
  }

  all_within : (w t : RunState) (e : RunEnd) → HasRunAll i o w t e → HasRunAll i (with_disk f o) w t e
  all_within w t e h =
      record { text = h.text; read = h.read; at_end = h.at_end; short = h.short; last = h.last; ran = run_within w h.text h.last e h.ran; closes = h.closes }

  -- with P of the cabinet after each line, or with what follows from it
  pub schedules_within : (P Q : State → Type 0) → ((x : State) → P x → Q x) → (U V : Type 0) → (U → V) → (w t : RunState) (e : ScheduleEnd) → SchedulesThrough P i o U w t e → SchedulesThrough Q i (with_disk f o) V w t e
  unfolding all_within run_within
  schedules_within P Q onward U V less w t schedule.Done h = (all_within w t run_end.Done h.0, λ n. onward _ (h.1 n))
  schedules_within P Q onward U V less w t (schedule.Line n) h = (all_within w t (run_end.Line n) h.0, λ n. onward _ (h.1 n))
  schedules_within P Q onward U V less w t schedule.WriteFault h = (all_within w t run_end.WriteFault h.0, λ n. onward _ (h.1 n))
  schedules_within P Q onward U V less w t schedule.ReadFault h = ((h.0.0, less h.0.1), tt)
  schedules_within P Q onward U V less w t schedule.TooLong h = ((h.0.0, less h.0.1), tt)
  schedules_within P Q onward U V less w t schedule.OutOfMemory h = (less h.0, tt)

-- the count doesn't fall in a schedule, nor where nothing was run
rises_in : (i : InputChange) (o : Outside) (w t : RunState) (e : RunEnd) → HasRunAll i o w t e → (n : ℕ) × RoseBy n o.disk.before o.disk.after
rises_in i o w t e h = (_, h.ran.faults)

rises_not : (o : Outside) → o.disk.after ≡ o.disk.before → (n : ℕ) × RoseBy n o.disk.before o.disk.after
rises_not o same = (0, stays (2 ^ 64 - 1) o.disk.before o.disk.after same)
  where
    stays : (bound before after : ℕ) → after ≡ before → min (before + 0) bound ≤ after
    stays bound before after same = omega (arith, same)

schedules_rises : (i : InputChange) (o : Outside) (U : Type 0) → (U → o.disk.after ≡ o.disk.before) → (w t : RunState) (e : ScheduleEnd) → Schedules i o U w t e → (n : ℕ) × RoseBy n o.disk.before o.disk.after
schedules_rises i o U same w t schedule.Done h = rises_in i o w t run_end.Done h
schedules_rises i o U same w t (schedule.Line n) h = rises_in i o w t (run_end.Line n) h
schedules_rises i o U same w t schedule.WriteFault h = rises_in i o w t run_end.WriteFault h
schedules_rises i o U same w t schedule.ReadFault h = rises_not o (same h.1)
schedules_rises i o U same w t schedule.TooLong h = rises_not o (same h.1)
schedules_rises i o U same w t schedule.OutOfMemory h = rises_not o (same h)

-- a schedule and the saving after it
pub runs_and_saves : (P Q : State → Type 0) → ((x : State) → P x → Q x) → (document : List ℕ) (i : InputChange) (o : Outside) (before after : ℕ) (Stays U : Type 0) (s u : State) (w : RunState) (e : ScheduleEnd)
    → before ≤ o.disk.before → o.disk.after ≤ after → (U → Stays) → (U → w.cabinet ≡ s) → (U → o.disk.after ≡ o.disk.before)
    → SchedulesThrough P i o U (run_state_of s document free_seats) w e → SavesAll (record { before = o.disk.after; after = after }) w.cabinet u
    → RunsAndSaves Q document i (with_disk (record { before = before; after = after }) o) Stays s u e
runs_and_saves P Q onward document i o before after Stays U s u w e earlier later less same faults h saves =
    let rises = schedules_rises i o U faults (run_state_of s document free_seats) w e h.0 in
    record {
      world = w;
      schedules = schedules_within i o (record { before = before; after = after }) earlier later P Q onward U (Stays × (w.cabinet ≡ s)) (λ untouched. (less untouched, same untouched)) (run_state_of s document free_seats) w e h;
      saves = saved_so w.cabinet u before o.disk.before o.disk.after after rises.0 earlier rises.1 saves;
      sound = λ told sound. saves_sound saves.count w.cabinet u saves.saves (schedule_sound i o (run_state_of s document free_seats) w U same e h.0 told sound);
    }

-- A SESSION

module _ (i : InputChange) (o : Outside) (f : FaultCounts) (earlier : f.before ≤ o.disk.before) (later : o.disk.after ≤ f.after) (document : List ℕ) where
  pub session_within : (s t : State) (e : SessionEnd) → HasSession i o document s t e → HasSession i (with_disk f o) document s t e
  session_within s t e h = record {
    messages = h.messages;
    answers = h.answers;
    held = h.held;
    stand = h.stand;
    served = record {
      chances = h.served.chances;
      made = h.served.made;
      each = h.served.each;
      failed = h.served.failed;
      faults = rose_within _ f.before o.disk.before o.disk.after f.after earlier later h.served.faults;
      truth = h.served.truth;
      sound = h.served.sound;
      fresh = h.served.fresh;
      tiles = h.served.tiles;
    };
    ends = h.ends;
  }

-- a session and the saving after it
pub serves_and_saves : (P Q : State → Type 0) → ((x : State) → P x → Q x) → (document : List ℕ) (i : InputChange) (o : Outside) (before after : ℕ) (s t u : State) (e : SessionEnd) → before ≤ o.disk.before → o.disk.after ≤ after
    → HasSessionThrough P i o document s t e → SavesAll (record { before = o.disk.after; after = after }) t u → ServesAndSaves Q document i (with_disk (record { before = before; after = after }) o) s u e
unfolding session_within
serves_and_saves P Q onward document i o before after s t u e earlier later h saves = record {
  served = t;
  session = (session_within i o (record { before = before; after = after }) earlier later document s t e h.0, λ n. onward _ (h.1 n));
  saves = saved_so t u before o.disk.before o.disk.after after _ earlier h.0.served.faults saves;
  sound = λ told sound. saves_sound saves.count t u saves.saves (h.0.served.sound told sound);
}
