-- What holds of the cabinet after each line of a schedule and after each message of a session, said of something that follows from it.
use Rattle.std.proofs.Common.{ℕ, List}
use Rattle.cabinet.specs.State.{State}
use Rattle.disk_words.specs.Runs.{RunsAndSaves, ServesAndSaves}
use Rattle.tile_service.specs.declared.schedule.ScheduleEnd.{ScheduleEnd}
use Rattle.tile_service.specs.declared.schedule.ScheduleEnd.TheVariants as schedule
use Rattle.sessions.specs.declared.session.SessionEnd.{SessionEnd}
use Rattle.sessions.specs.Outside.{InputChange, Outside}
use Rattle.tile_service.specs.Run.{RunState}
use Rattle.tile_service.specs.Schedules.{SchedulesThrough}

module _ (P Q : State → Type 0) (onward : (x : State) → P x → Q x) (i : InputChange) (o : Outside) where
  schedules_weaker : (U : Type 0) (w t : RunState) (e : ScheduleEnd) → SchedulesThrough P i o U w t e → SchedulesThrough Q i o U w t e
  schedules_weaker U w t schedule.Done h = (h.0, λ n. onward _ (h.1 n))
  schedules_weaker U w t (schedule.Line n) h = (h.0, λ n. onward _ (h.1 n))
  schedules_weaker U w t schedule.WriteFault h = (h.0, λ n. onward _ (h.1 n))
  schedules_weaker U w t schedule.ReadFault h = (h.0, tt)
  schedules_weaker U w t schedule.TooLong h = (h.0, tt)
  schedules_weaker U w t schedule.OutOfMemory h = (h.0, tt)

  pub runs_weaker : (document : List ℕ) (Stays : Type 0) (s u : State) (e : ScheduleEnd) → RunsAndSaves P document i o Stays s u e → RunsAndSaves Q document i o Stays s u e
  runs_weaker document Stays s u e h = record { world = h.world; schedules = schedules_weaker _ _ h.world e h.schedules; saves = h.saves; sound = h.sound }

  pub serves_weaker : (document : List ℕ) (s u : State) (e : SessionEnd) → ServesAndSaves P document i o s u e → ServesAndSaves Q document i o s u e
  serves_weaker document s u e h = record { served = h.served; session = (h.session.0, λ n. onward _ (h.session.1 n)); saves = h.saves; sound = h.sound }
