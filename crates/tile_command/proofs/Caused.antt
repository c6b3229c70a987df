-- Each status that a word tells has its cause, and so what is in order is done.
use Rattle.std.specs.Prelude.{ℕ, ◌≡◌, ◌≤◌, ◌⊎◌, List, length, Option, Some, None, IfSome, Ok, Err, ⊤}
use Rattle.std.proofs.Common.{sym, subst, inl, inr, refl}
use Rattle.cabinet.specs.Commands.{Cuts}
use Rattle.cabinet.specs.declared.replies.CutReply.TheVariants as cut
use Rattle.cabinet.specs.State.{State, fresh_state}
use Rattle.catalog.specs.declared.catalogue.Catalogue.{Catalogue}
use Rattle.base.specs.Causes.{Rose}
use Rattle.base.specs.Readings.{Readings}
use Rattle.command_setup.specs.Setup.{HasRisen}
use Rattle.command_status.specs.declared.status.Status.TheVariants as status
use Rattle.command_status.specs.declared.status.Status.{Status}
use Rattle.command_words.specs.declared.words.KeptWord.{KeptWord}
use Rattle.command_words.specs.declared.words.KeptWord.TheVariants as kept
use Rattle.command_words.specs.declared.words.MemoryWord.{MemoryWord}
use Rattle.command_words.specs.declared.words.MemoryWord.TheVariants as memory
use Rattle.command_words.specs.declared.words.UpkeepWord.{UpkeepWord}
use Rattle.command_words.specs.declared.words.UpkeepWord.TheVariants as upkeep
use Rattle.command_words.specs.declared.words.Word.{Word}
use Rattle.command_words.specs.declared.words.Word.TheVariants as word
use Rattle.gate_journal.specs.declared.fault.OpenFault.TheVariants as open_fault
use Rattle.job_forms.specs.Cover.{cover_of}
use Rattle.job_forms.specs.declared.fault.JobFault.{JobFault}
use Rattle.job_forms.specs.declared.fault.JobFault.TheVariants as form
use Rattle.job_words.specs.Ends.{RunsJob}
use Rattle.job_words.specs.Input as jobs
use Rattle.job_forms.specs.declared.job.Job.{Job}
use Rattle.job_forms.specs.Reading.{job_of}
use Rattle.opened_cache.specs.Change.{DiskChange, HasFailed}
use Rattle.opened_cache.specs.Opened as opened
use Rattle.opened_cache.specs.Opened.{HasOpened}
use Rattle.disk_words.specs.Covers as covers
use Rattle.disk_words.specs.Ends.{DropsAll, Makes, TellsUsage, Truncates}
use Rattle.disk_words.specs.Runs.{HasReplayed, HasScheduled}
use Rattle.tile_command.specs.Causes.{CutReplies, HasCause, HasReadFault, IsCaused, IsComplete, IsInOrder, NothingFails, OfDisk, OfDocument, OfInput, UnderBoth}
use Rattle.tile_command.specs.Change.{CommandChange, Stays, output_of, without_disk}
use Rattle.tile_command.specs.Command.{StatusSays}
use Rattle.tile_command.specs.Kept.{HasKeptUp, HasRun}
use Rattle.tile_command.specs.Memory.{HasWorked, MemoryTells, status_of_drill}
use Rattle.command_status.specs.Statuses.{status_of_schedule, status_of_session}
use Rattle.tile_drill.specs.declared.drill.DrillEnd.{DrillEnd}
use Rattle.tile_drill.specs.declared.drill.DrillEnd.TheVariants as drill_end
use Rattle.tile_drill.specs.Drill.{Drills}
use Rattle.tile_service.specs.declared.schedule.ScheduleEnd.{ScheduleEnd}
use Rattle.tile_service.specs.declared.schedule.ScheduleEnd.TheVariants as schedule_end
use Rattle.sessions.specs.declared.session.SessionEnd.{SessionEnd}
use Rattle.sessions.specs.declared.session.SessionEnd.TheVariants as session_end
use Rattle.sessions.specs.Outside.{Outside}
use Rattle.tile_service.specs.Run.{RunState}
use Rattle.truncation_list.specs.declared.cover.Cover.{Cover}
use Rattle.tile_command.proofs.Causes.{IsOf, Tells, by_both, by_catalogue, by_schedule, by_session, document_of, over, read_in, whole_text}

-- ON A CABINET IN MEMORY

module _ (h : CommandChange) (stays : Stays) (d : DiskChange) (clock : Readings) where
  by_drill : UnderBoth h (λ c document. ⊤) → (number : ℕ) (o : Outside) (U : Type 0) (n : ℕ) (w t : RunState) (e : DrillEnd) → (Rose o.writes.before o.writes.after → Rose h.outside.writes.before h.outside.writes.after)
      → Drills o U n w t e → IsCaused h d clock (word.InMemory (memory.Drill number)) (status_of_drill e)
  by_drill through number o U n w t drill_end.Done writes x = through
  by_drill through number o U n w t drill_end.WriteFault writes x = writes x.5
  by_drill through number o U n w t drill_end.OutOfMemory writes x = tt

  by_work : (c : Catalogue) (document : List ℕ) (w : MemoryWord) (s : Status) → IsOf h.catalogue c → Tells h.capabilities document
      → HasWorked h.input (without_disk h).outside stays (fresh_state c clock) document w s → IsCaused h d clock (word.InMemory w) s
  by_work c document memory.Schedule s be has x =
      subst (IsCaused h d clock (word.InMemory memory.Schedule)) (sym x.1)
      (by_schedule h d clock (word.InMemory memory.Schedule) (λ P p. p) (without_disk h).outside (fresh_state c clock) document (λ rose. rose) (λ o. inr (inr (c, be, (document, has, o)))) (λ r. (c, be, (document, has, r))) (λ n r. (c, be, (document, has, r))) _ x.2 x.0 x.4)
  by_work c document memory.Replay s be has x =
      subst (IsCaused h d clock (word.InMemory memory.Replay)) (sym x.1)
      (by_session h d clock (word.InMemory memory.Replay) (λ P p. p) (without_disk h).outside document (fresh_state c clock) x.2 (λ rose. rose) (λ r. (c, be, (document, has, r))) (λ e b. (c, be, (document, has, b))) x.0 x.4)
  by_work c document (memory.Drill number) s be has x =
      subst (IsCaused h d clock (word.InMemory (memory.Drill number))) (sym x.1) (by_drill (c, be, (document, has, tt)) number (without_disk h).outside _ number _ x.2 x.0 (λ rose. rose) x.5)

  by_memory : (w : MemoryWord) (s : Status) → MemoryTells (without_disk h) stays clock w s → IsCaused h d clock (word.InMemory w) s
  by_memory w s (inl x) = subst (IsCaused h d clock (word.InMemory w)) (sym x.1) (by_both h d clock (word.InMemory w) (λ P p. p) stays.capabilities x.0 x.2)
  by_memory w s (inr x) = by_work x.0 x.1 w s (read_in h.catalogue x.0 x.2.read) (document_of h.capabilities x.1 x.2.describes) x.3

-- ON THE CACHE OF A DISK

module _ (h : CommandChange) (stays : Stays) (d : DiskChange) (DiskStays : Type 0) (clock : Readings) (c : Catalogue) (be : IsOf h.catalogue c) where
  module _ (P : State → Type 0) (document : List ℕ) (has : Tells h.capabilities document) where
    scheduled : (e : ScheduleEnd) → HasScheduled P c clock document h.input h.outside d (stays.output × stays.source) e → IsCaused h d clock (word.Kept kept.Schedule) (status_of_schedule e)
    scheduled e x =
        by_schedule h d clock (word.Kept kept.Schedule) (λ P p. p) h.outside x.0 document (λ rose. rose) (λ o. inr (inr (c, be, (document, has, (x.0, x.2.opened, o))))) (λ r. (c, be, (document, has, (x.0, x.2.opened, r)))) (λ n r. (c, be, (document, has, (x.0, x.2.opened, r)))) _ x.3.world e x.3.schedules.0

    replayed : (e : SessionEnd) → HasReplayed P c clock document h.input h.outside d e → IsCaused h d clock (word.Kept kept.Replay) (status_of_session e)
    replayed e x = by_session h d clock (word.Kept kept.Replay) (λ P p. p) h.outside document x.0 x.3.served (λ rose. rose) (λ r. (c, be, (document, has, (x.0, x.2.opened, r)))) (λ e b. (c, be, (document, has, (x.0, x.2.opened, b)))) e x.3.session.0

    by_run : (w : KeptWord) (e : Status) → HasRun P h.input h.outside stays d clock w c document e → IsCaused h d clock (word.Kept w) e
    by_run kept.Schedule status.Done x = scheduled schedule_end.Done x
    by_run kept.Schedule (status.Line n) x = scheduled (schedule_end.Line n) x
    by_run kept.Schedule status.ReadFault x = scheduled schedule_end.ReadFault x
    by_run kept.Schedule status.WriteFault x = scheduled schedule_end.WriteFault x
    by_run kept.Schedule status.TooLong x = scheduled schedule_end.TooLong x
    by_run kept.Schedule status.OutOfMemory x = tt
    by_run kept.Schedule (status.Cache cause) x = (c, be, (document, has, x.0))
    by_run kept.Schedule status.DiskFault x = x.0
    by_run kept.Schedule (status.Form fault) x = absurd x
    by_run kept.Schedule status.CutsFull x = absurd x
    by_run kept.Schedule (status.Stream how) x = absurd x
    by_run kept.Schedule status.Usage x = absurd x
    by_run kept.Schedule (status.Catalogue fault) x = absurd x
    by_run kept.Schedule status.ListenFault x = absurd x
    by_run kept.Schedule status.ThreadFault x = absurd x
    by_run kept.Replay status.Done x = replayed session_end.Closed x
    by_run kept.Replay (status.Stream session_end.Truncated) x = replayed session_end.Truncated x
    by_run kept.Replay (status.Stream (session_end.Bad code)) x = replayed (session_end.Bad code) x
    by_run kept.Replay (status.Stream session_end.TooMany) x = replayed session_end.TooMany x
    by_run kept.Replay (status.Stream session_end.Closed) x = absurd x
    by_run kept.Replay (status.Stream session_end.ReadFault) x = absurd x
    by_run kept.Replay (status.Stream session_end.WriteFault) x = absurd x
    by_run kept.Replay (status.Stream session_end.OutOfMemory) x = absurd x
    by_run kept.Replay status.ReadFault x = replayed session_end.ReadFault x
    by_run kept.Replay status.WriteFault x = replayed session_end.WriteFault x
    by_run kept.Replay status.OutOfMemory x = tt
    by_run kept.Replay (status.Cache cause) x = (c, be, (document, has, x.0))
    by_run kept.Replay status.DiskFault x = x.0
    by_run kept.Replay (status.Line n) x = absurd x
    by_run kept.Replay status.TooLong x = absurd x
    by_run kept.Replay (status.Form fault) x = absurd x
    by_run kept.Replay status.CutsFull x = absurd x
    by_run kept.Replay status.Usage x = absurd x
    by_run kept.Replay (status.Catalogue fault) x = absurd x
    by_run kept.Replay status.ListenFault x = absurd x
    by_run kept.Replay status.ThreadFault x = absurd x

  -- UPKEEP

  cover_formed : (fault : JobFault) → covers.IsFormedSo c h.input fault → IfSome h.input.from (λ text. (length text ≤ 65536) × (cover_of c text ≡ Err fault))
  cover_formed form.NotJson r = whole_text _ _ _ r.text r.read r.at_end (r.short, r.comes)
  cover_formed (form.Missing field) r = whole_text _ _ _ r.text r.read r.at_end (r.short, r.comes)
  cover_formed (form.Bad field) r = whole_text _ _ _ r.text r.read r.at_end (r.short, r.comes)
  cover_formed (form.Limit field) r = whole_text _ _ _ r.text r.read r.at_end (r.short, r.comes)
  cover_formed form.OutOfMemory r = absurd r

  cover_in : (cover : Cover) → covers.IsCoverIn c h.input cover → IfSome h.input.from (λ text. (length text ≤ 65536) × (cover_of c text ≡ Ok cover))
  cover_in cover r = whole_text _ _ _ r.text r.read r.at_end (r.short, r.comes)

  truncated : (e : Status) → Truncates c clock h.input d (output_of h.outside) DiskStays stays.output e → IsCaused h d clock (word.Upkeep upkeep.Truncate) e
  truncated status.Done x = (c, be, (x.0, cover_in x.0 x.1, (x.2.2, (x.2.0, x.2.3.opened, (x.2.1, x.2.4)))))
  truncated status.OutOfMemory x = tt
  truncated status.ReadFault x = inr (inr x.0)
  truncated status.TooLong x = inr (inr (c, be, over 65536 _ _ x.0.0 x.0.1 x.0.2))
  truncated (status.Form fault) x = (c, be, cover_formed fault x.0)
  truncated status.WriteFault x = x.2.5.1
  truncated status.CutsFull x = (c, be, (x.0, cover_in x.0 x.1, (x.2.0, x.2.2.opened, (x.2.1, x.2.3))))
  truncated (status.Cache cause) x = (c, be, (x.0, cover_in x.0 x.1, refused x.2.0))
    where
      refused : (opened.IsRefused c d cause × opened.RefusalLeaves c d cause) ⊎ ((cause ≡ open_fault.Spent) × ((s : State) × (u : State) × HasOpened c clock d s u × Cuts s x.0 cut.Spent u)) → opened.IsRefused c d cause ⊎ ((cause ≡ open_fault.Spent) × CutReplies d clock c x.0 cut.Spent)
      refused (inl r) = inl r.0
      refused (inr r) = inr (r.0, (r.1.0, r.1.2.opened, (r.1.1, r.1.3)))
  truncated status.DiskFault x = x.2.0
  truncated (status.Line n) x = absurd x
  truncated (status.Stream how) x = absurd x
  truncated status.Usage x = absurd x
  truncated (status.Catalogue fault) x = absurd x
  truncated status.ListenFault x = absurd x
  truncated status.ThreadFault x = absurd x

  dropped : (e : Status) → DropsAll c clock d (output_of h.outside) stays.output e → IsCaused h d clock (word.Upkeep upkeep.Expire) e
  dropped status.Done x = (c, be, (x.1.0, x.1.2.opened, tt))
  dropped status.WriteFault x = x.2.1
  dropped (status.Cache cause) x = (c, be, x.0)
  dropped status.DiskFault x = x.0
  dropped status.OutOfMemory x = tt
  dropped status.ReadFault x = absurd x
  dropped status.TooLong x = absurd x
  dropped (status.Form fault) x = absurd x
  dropped status.CutsFull x = absurd x
  dropped (status.Line n) x = absurd x
  dropped (status.Stream how) x = absurd x
  dropped status.Usage x = absurd x
  dropped (status.Catalogue fault) x = absurd x
  dropped status.ListenFault x = absurd x
  dropped status.ThreadFault x = absurd x

  told : (e : Status) → TellsUsage c clock d (output_of h.outside) stays.output e → IsCaused h d clock (word.Upkeep upkeep.Usage) e
  told status.Done x = (c, be, (x.0, x.1.opened, tt))
  told status.WriteFault x = x.2.1
  told (status.Cache cause) x = (c, be, x.0)
  told status.DiskFault x = x.0
  told status.OutOfMemory x = tt
  told status.ReadFault x = absurd x
  told status.TooLong x = absurd x
  told (status.Form fault) x = absurd x
  told status.CutsFull x = absurd x
  told (status.Line n) x = absurd x
  told (status.Stream how) x = absurd x
  told status.Usage x = absurd x
  told (status.Catalogue fault) x = absurd x
  told status.ListenFault x = absurd x
  told status.ThreadFault x = absurd x

  made : (e : Status) → Makes c d (output_of h.outside) stays.output e → IsCaused h d clock (word.Upkeep upkeep.Make) e
  made status.Done x = (c, be, tt)
  made status.WriteFault x = x.1.1
  made status.DiskFault x = x.0
  made status.ReadFault x = absurd x
  made status.TooLong x = absurd x
  made (status.Form fault) x = absurd x
  made (status.Cache cause) x = absurd x
  made status.CutsFull x = absurd x
  made (status.Line n) x = absurd x
  made (status.Stream how) x = absurd x
  made status.OutOfMemory x = absurd x
  made status.Usage x = absurd x
  made (status.Catalogue fault) x = absurd x
  made status.ListenFault x = absurd x
  made status.ThreadFault x = absurd x

  by_upkeep : (w : UpkeepWord) (e : Status) → HasKeptUp h.input (output_of h.outside) stays d DiskStays clock w c e → IsCaused h d clock (word.Upkeep w) e
  by_upkeep upkeep.Make e x = made e x.0
  by_upkeep upkeep.Truncate e x = truncated e x
  by_upkeep upkeep.Expire e x = dropped e x.0
  by_upkeep upkeep.Usage e x = told e x.0

  -- A JOB

  job_formed : (fault : JobFault) → jobs.IsFormedSo c h.input fault → IfSome h.input.from (λ text. (length text ≤ 65536) × (job_of c text ≡ Err fault))
  job_formed form.NotJson r = whole_text _ _ _ r.text r.read r.at_end (r.short, r.comes)
  job_formed (form.Missing field) r = whole_text _ _ _ r.text r.read r.at_end (r.short, r.comes)
  job_formed (form.Bad field) r = whole_text _ _ _ r.text r.read r.at_end (r.short, r.comes)
  job_formed (form.Limit field) r = whole_text _ _ _ r.text r.read r.at_end (r.short, r.comes)
  job_formed form.OutOfMemory r = absurd r

  job_in : (job : Job) → jobs.IsJobIn c h.input job → IfSome h.input.from (λ text. (length text ≤ 65536) × (job_of c text ≡ Ok job))
  job_in job r = whole_text _ _ _ r.text r.read r.at_end (r.short, r.comes)

  by_job : (unkept : ℕ) (e : Status) → RunsJob c clock h.input h.outside d DiskStays (stays.output × stays.source) unkept e → IsCaused h d clock word.Job e
  by_job unkept status.Done x = (c, be, (x.0, job_in x.0 x.1, (x.2.0, x.2.2.opened, tt)))
  by_job unkept status.OutOfMemory x = tt
  by_job unkept status.ReadFault x = inr (inr x.0)
  by_job unkept status.TooLong x = inr (inr (c, be, over 65536 _ _ x.0.0 x.0.1 x.0.2))
  by_job unkept (status.Form fault) x = (c, be, job_formed fault x.0)
  by_job unkept status.WriteFault x = x.2.6.1
  by_job unkept (status.Cache cause) x = (c, be, (x.0, job_in x.0 x.1, x.2.0))
  by_job unkept status.DiskFault x = x.2.0
  by_job unkept status.CutsFull x = absurd x
  by_job unkept (status.Line n) x = absurd x
  by_job unkept (status.Stream how) x = absurd x
  by_job unkept status.Usage x = absurd x
  by_job unkept (status.Catalogue fault) x = absurd x
  by_job unkept status.ListenFault x = absurd x
  by_job unkept status.ThreadFault x = absurd x

-- ALL WORDS

module _ (P : State → Type 0) (h : CommandChange) (stays : Stays) (d : DiskChange) (DiskStays : Type 0) (clock : Readings) where
  by_word : (w : Word) (unkept : ℕ) (s : Status) → StatusSays P h stays d DiskStays clock (Some w) unkept s → IsCaused h d clock w s
  by_word (word.InMemory w) unkept s x = by_memory h stays d clock w s x.0
  by_word (word.Kept w) unkept s (inl x) = subst (IsCaused h d clock (word.Kept w)) (sym x.0.1) (by_both h d clock (word.Kept w) (λ P p. p) stays.capabilities x.0.0 x.0.2)
  by_word (word.Kept w) unkept s (inr x) =
      by_run h stays d DiskStays clock x.0 (read_in h.catalogue x.0 x.2.read) P x.1 (document_of h.capabilities x.1 x.2.describes) w s x.3
  by_word (word.Upkeep w) unkept s (inl x, first, second) = subst (IsCaused h d clock (word.Upkeep w)) (sym x.1) (by_catalogue h d clock (word.Upkeep w) x.0 x.2)
  by_word (word.Upkeep w) unkept s (inr x, first, second) = by_upkeep h stays d DiskStays clock x.0 (read_in h.catalogue x.0 x.1) w s x.2
  by_word word.Job unkept s (inl x, same) = subst (IsCaused h d clock word.Job) (sym x.1) (by_catalogue h d clock word.Job x.0 x.2)
  by_word word.Job unkept s (inr x, same) = by_job h stays d DiskStays clock x.0 (read_in h.catalogue x.0 x.1) unkept s x.2

-- WHAT IS VALID IS DONE

module _ (h : CommandChange) (d : DiskChange) (w : Word) (quiet : NothingFails h d) where
  pub no_read : HasReadFault h w → ⊥
  no_read (inl rose) = quiet.catalogue rose
  no_read (inr (inl rose)) = quiet.capabilities (of_document w rose)
    where
      of_document : (w : Word) → OfDocument w (HasRisen h.capabilities) → HasRisen h.capabilities
      of_document (word.InMemory w) rose = rose
      of_document (word.Kept w) rose = rose
      of_document (word.Upkeep w) rose = absurd rose
      of_document word.Job rose = absurd rose
  no_read (inr (inr rose)) = quiet.input (of_input w rose)
    where
      of_input : (w : Word) → OfInput w (HasRisen h.input) → HasRisen h.input
      of_input (word.InMemory memory.Schedule) rose = rose
      of_input (word.InMemory memory.Replay) rose = rose
      of_input (word.InMemory (memory.Drill number)) rose = absurd rose
      of_input (word.Kept w) rose = rose
      of_input (word.Upkeep upkeep.Make) rose = absurd rose
      of_input (word.Upkeep upkeep.Truncate) rose = rose
      of_input (word.Upkeep upkeep.Expire) rose = absurd rose
      of_input (word.Upkeep upkeep.Usage) rose = absurd rose
      of_input word.Job rose = rose

  pub no_disk : (w : Word) → OfDisk w (HasFailed d) → ⊥
  no_disk (word.InMemory w) failed = failed
  no_disk (word.Kept w) failed = quiet.disk failed
  no_disk (word.Upkeep w) failed = quiet.disk failed
  no_disk word.Job failed = quiet.disk failed

module _ (h : CommandChange) (d : DiskChange) (clock : Readings) (w : Word) (valid : IsInOrder h d clock w) (quiet : NothingFails h d) where
  done : (s : Status) → IsCaused h d clock w s → (s ≡ status.Done) ⊎ (s ≡ status.OutOfMemory)
  done status.Done x = inl refl
  done status.OutOfMemory x = inr refl
  done status.Usage x = absurd x
  done (status.Catalogue fault) x = absurd (valid.catalogue fault x)
  done status.ReadFault x = absurd (no_read h d w quiet x)
  done status.WriteFault x = absurd (quiet.output x)
  done status.DiskFault x = absurd (no_disk h d w quiet w x)
  done (status.Line n) x = absurd (valid.lines n x)
  done (status.Cache cause) x = absurd (valid.cache cause x)
  done status.CutsFull x = absurd (valid.cuts x)
  done (status.Stream how) x = absurd (valid.stream how x)
  done status.TooLong x = absurd (valid.short x)
  done (status.Form fault) x = absurd (valid.form fault x)
  done status.ListenFault x = absurd x
  done status.ThreadFault x = absurd x

-- ALL WORDS

module _ (P : State → Type 0) (h : CommandChange) (stays : Stays) (d : DiskChange) (DiskStays : Type 0) (clock : Readings) where
  -- the words are a command
  pub caused : (w : Word) (unkept : ℕ) (s : Status) → StatusSays P h stays d DiskStays clock (Some w) unkept s → (read : Option Word) → read ≡ Some w → HasCause h d clock read s
  caused w unkept s served read is = subst (λ r. HasCause h d clock r s) (sym is) (by_word P h stays d DiskStays clock w unkept s served)

pub completed : (h : CommandChange) (d : DiskChange) (clock : Readings) (read : Option Word) (s : Status) → HasCause h d clock read s → IsComplete h d clock read s
completed h d clock None s cause = tt
completed h d clock (Some w) s cause = λ valid quiet. done h d clock w valid quiet s cause
