-- What the ends of the work and the refusals before it tell.
use Rattle.std.proofs.Common.{ℕ, ◌≡◌, ◌↔◌, List, Option, Some, None, inl, inr, subst, sym, ◌∙◌}
use Rattle.cabinet.specs.State.{State}
use Rattle.catalog.specs.declared.catalogue.Catalogue.{Catalogue}
use Rattle.command_status.specs.declared.status.Status.TheVariants as status
use Rattle.command_status.specs.declared.status.Status.{Status}
use Rattle.command_words.specs.declared.words.KeptWord.{KeptWord}
use Rattle.command_words.specs.declared.words.KeptWord.TheVariants as kept
use Rattle.command_words.specs.declared.words.MemoryWord.{MemoryWord}
use Rattle.command_words.specs.declared.words.MemoryWord.TheVariants as memory
use Rattle.command_words.specs.declared.words.UpkeepWord.{UpkeepWord}
use Rattle.command_words.specs.declared.words.UpkeepWord.TheVariants as upkeep
use Rattle.command_words.specs.declared.words.Word.{Word}
use Rattle.command_words.specs.declared.words.Word.TheVariants as word
use Rattle.base.specs.Readings.{Readings}
use Rattle.command_setup.specs.declared.configuration.Unconfigured.{Unconfigured}
use Rattle.command_setup.specs.declared.configuration.Unconfigured.TheVariants as unconfigured
use Rattle.job_words.specs.Ends.{RunsJob}
use Rattle.opened_cache.specs.Change.{DiskChange}
use Rattle.tile_command.specs.Change.{CommandChange, Stays, output_of, without_disk}
use Rattle.tile_command.specs.Command.{StatusSays}
use Rattle.tile_command.specs.Kept.{HasKeptUp, HasRun}
use Rattle.tile_command.specs.Memory.{MemoryTells, status_of_drill}
use Rattle.command_setup.specs.Refusals.{status_of_refusal}
use Rattle.command_status.specs.Statuses.{status_of_schedule, status_of_session}
use Rattle.tile_drill.specs.declared.drill.DrillEnd.{DrillEnd}
use Rattle.tile_drill.specs.declared.drill.DrillEnd.TheVariants as drill_end
use Rattle.tile_service.specs.declared.schedule.ScheduleEnd.{ScheduleEnd}
use Rattle.tile_service.specs.declared.schedule.ScheduleEnd.TheVariants as schedule_end
use Rattle.sessions.specs.declared.session.SessionEnd.{SessionEnd}
use Rattle.sessions.specs.declared.session.SessionEnd.TheVariants as session_end
use Rattle.sessions.specs.Outside.{InputChange, Outside}
use Rattle.tile_service.specs.Run.{RunState}
use Rattle.tile_service.specs.Schedules.{Schedules}

-- where less stays as it was, the same can be said of a schedule
pub less_stays : (i : InputChange) (o : Outside) (U V : Type 0) → (U → V) → (w t : RunState) (e : ScheduleEnd) → Schedules i o U w t e → Schedules i o V w t e
less_stays i o U V less w t schedule_end.Done h = h
less_stays i o U V less w t (schedule_end.Line n) h = h
less_stays i o U V less w t schedule_end.WriteFault h = h
less_stays i o U V less w t schedule_end.ReadFault h = (h.0, less h.1)
less_stays i o U V less w t schedule_end.TooLong h = (h.0, less h.1)
less_stays i o U V less w t schedule_end.OutOfMemory h = less h

-- NO WORD THAT IS A COMMAND IS TOLD AS IF IT WERE NONE

other_of_refusal : (e : Unconfigured) → status_of_refusal e ≡ status.Usage → ⊥
other_of_refusal unconfigured.ReadFault is = cc
other_of_refusal unconfigured.TooLong is = cc
other_of_refusal (unconfigured.Fault fault) is = cc
other_of_refusal unconfigured.OutOfMemory is = cc

other_of_schedule : (e : ScheduleEnd) → status_of_schedule e ≡ status.Usage → ⊥
other_of_schedule schedule_end.Done is = cc
other_of_schedule (schedule_end.Line n) is = cc
other_of_schedule schedule_end.ReadFault is = cc
other_of_schedule schedule_end.WriteFault is = cc
other_of_schedule schedule_end.TooLong is = cc
other_of_schedule schedule_end.OutOfMemory is = cc

other_of_session : (e : SessionEnd) → status_of_session e ≡ status.Usage → ⊥
other_of_session session_end.Closed is = cc
other_of_session session_end.Truncated is = cc
other_of_session (session_end.Bad code) is = cc
other_of_session session_end.TooMany is = cc
other_of_session session_end.ReadFault is = cc
other_of_session session_end.WriteFault is = cc
other_of_session session_end.OutOfMemory is = cc

other_of_drill : (e : DrillEnd) → status_of_drill e ≡ status.Usage → ⊥
other_of_drill drill_end.Done is = cc
other_of_drill drill_end.WriteFault is = cc
other_of_drill drill_end.OutOfMemory is = cc

module _ (P : State → Type 0) (h : CommandChange) (stays : Stays) (d : DiskChange) (DiskStays : Type 0) (clock : Readings) where
  other_in_memory : (w : MemoryWord) (s : Status) → MemoryTells (without_disk h) stays clock w s → s ≡ status.Usage → ⊥
  other_in_memory w s (inl refused) is = other_of_refusal refused.0 (sym refused.1 ∙ is)
  other_in_memory memory.Schedule s (inr done) is = other_of_schedule done.3.0 (sym done.3.1 ∙ is)
  other_in_memory memory.Replay s (inr done) is = other_of_session done.3.0 (sym done.3.1 ∙ is)
  other_in_memory (memory.Drill number) s (inr done) is = other_of_drill done.3.0 (sym done.3.1 ∙ is)

  other_of_run : (w : KeptWord) (c : Catalogue) (document : List ℕ) → HasRun P h.input h.outside stays d clock w c document status.Usage → ⊥
  other_of_run kept.Schedule c document run = run
  other_of_run kept.Replay c document run = run

  other_of_upkeep : (w : UpkeepWord) (c : Catalogue) → HasKeptUp h.input (output_of h.outside) stays d DiskStays clock w c status.Usage → ⊥
  other_of_upkeep upkeep.Make c done = done.0
  other_of_upkeep upkeep.Truncate c done = done
  other_of_upkeep upkeep.Expire c done = done.0
  other_of_upkeep upkeep.Usage c done = done.0

  other_of_word : (w : Word) (unkept : ℕ) (s : Status) → StatusSays P h stays d DiskStays clock (Some w) unkept s → s ≡ status.Usage → ⊥
  other_of_word (word.InMemory w) unkept s told is = other_in_memory w s told.0 is
  other_of_word (word.Kept w) unkept s (inl refused) is = other_of_refusal refused.0.0 (sym refused.0.1 ∙ is)
  other_of_word (word.Kept w) unkept s (inr done) is = other_of_run w done.0 done.1 (subst (HasRun P h.input h.outside stays d clock w done.0 done.1) is done.3)
  other_of_word (word.Upkeep w) unkept s (inl refused, first, second) is = other_of_refusal refused.0 (sym refused.1 ∙ is)
  other_of_word (word.Upkeep w) unkept s (inr done, first, second) is = other_of_upkeep w done.0 (subst (HasKeptUp h.input (output_of h.outside) stays d DiskStays clock w done.0) is done.2)
  other_of_word word.Job unkept s (inl refused, same) is = other_of_refusal refused.0 (sym refused.1 ∙ is)
  other_of_word word.Job unkept s (inr done, same) is = subst (RunsJob done.0 clock h.input h.outside d DiskStays (stays.output × stays.source) unkept) is done.2

  -- so `Usage` is told exactly where words are no command
  pub exactly_usage : (w : Word) (unkept : ℕ) (s : Status) → StatusSays P h stays d DiskStays clock (Some w) unkept s → (read : Option Word) → read ≡ Some w → (s ≡ status.Usage) ↔ (read ≡ None)
  exactly_usage w unkept s told read is = ((λ usage. absurd (other_of_word w unkept s told usage)), (λ none. absurd (no_word none)))
    where
      no_word : read ≡ None → ⊥
      no_word none = cc
