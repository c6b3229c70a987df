-- What the word tells of the run of a job.
use Rattle.std.proofs.Common.{ℕ, ◌≡◌, ◌≤◌, List, map, Option, ap, subst}
use Rattle.cabinet.specs.State.{State}
use Rattle.catalog.specs.declared.catalogue.Catalogue.{Catalogue}
use Rattle.base.specs.Readings.{Readings}
use Rattle.job_places.specs.declared.tally.Tally.{Tally}
use Rattle.job_places.specs.Tallies.{tally_of}
use Rattle.job_forms.specs.declared.job.Job.{Job}
use Rattle.job_words.specs.Ends.{IsDoneSo, RunsAndSaves, job_text, output_of}
use Rattle.job_words.specs.Run.{IsJobRun}
use Rattle.job_words.specs.Visit.{LoneVisit}
use Rattle.command_status.specs.declared.status.Status.{Status}
use Rattle.command_status.specs.declared.status.Status.TheVariants as status
use Rattle.opened_cache.specs.Change.{DiskChange}
use Rattle.opened_cache.specs.Opened.{HasOpened}
use Rattle.opened_cache.specs.Saving.{SavesAll}
use Rattle.opened_cache.specs.Texts.{Sends}
use Rattle.opened_cache.proofs.Picturing.{saves_sound}
use Rattle.opened_cache.proofs.Within.{rose_within, saved_so}
use Rattle.sessions.specs.Outside.{FaultCounts, Outside, counts}

-- a run and the saving after it, with the faults of the disk counted over the whole word
pub runs_and_saves : (told : Option ℕ) (renders : FaultCounts) (before start mid after : ℕ) (job : Job) (visits : List LoneVisit) (s t u : State) → before ≤ start → mid ≤ after
    → IsJobRun told renders (counts start mid) job visits s t → SavesAll (counts mid after) t u → RunsAndSaves told renders (counts before after) job visits s u
runs_and_saves told renders before start mid after job visits s t u earlier later run saves = record {
  ran = t;
  run = record {
    each = run.each;
    goes = run.goes;
    failed = run.failed;
    faults = rose_within _ before start mid after earlier later run.faults;
    sound = run.sound;
  };
  saves = saved_so t u before start mid after _ earlier run.faults saves;
  sound = λ told sound. saves_sound saves.count t u saves.saves (run.sound told sound);
}

-- THE TEXT, by how its writing ended

told_so : (c : Catalogue) (clock : Readings) (job : Job) (o : Outside) (d : DiskChange) (Stays : Type 0) (s u : State) (visits : List LoneVisit)
    → HasOpened c clock d s u → RunsAndSaves o.told o.renders o.disk job visits s u → (unkept : ℕ) → unkept ≡ (tally_of (map (λ v. v.end) visits)).unkept → (e : Status) → Sends (output_of o) (job_text job.kind (tally_of (map (λ v. v.end) visits))) e
    → IsDoneSo c clock job o d Stays unkept e
told_so c clock job o d Stays s u visits h runs unkept counted status.Done sends = (s, u, h, visits, runs, counted, sends)
told_so c clock job o d Stays s u visits h runs unkept counted status.WriteFault sends = (s, u, h, visits, runs, counted, sends)
told_so c clock job o d Stays s u visits h runs unkept counted status.ReadFault sends = absurd sends
told_so c clock job o d Stays s u visits h runs unkept counted status.TooLong sends = absurd sends
told_so c clock job o d Stays s u visits h runs unkept counted (status.Form cause) sends = absurd sends
told_so c clock job o d Stays s u visits h runs unkept counted (status.Cache cause) sends = absurd sends
told_so c clock job o d Stays s u visits h runs unkept counted status.DiskFault sends = absurd sends
told_so c clock job o d Stays s u visits h runs unkept counted status.CutsFull sends = absurd sends
told_so c clock job o d Stays s u visits h runs unkept counted (status.Line n) sends = absurd sends
told_so c clock job o d Stays s u visits h runs unkept counted (status.Stream session) sends = absurd sends
told_so c clock job o d Stays s u visits h runs unkept counted status.OutOfMemory sends = absurd sends
told_so c clock job o d Stays s u visits h runs unkept counted status.Usage sends = absurd sends
told_so c clock job o d Stays s u visits h runs unkept counted (status.Catalogue fault) sends = absurd sends
told_so c clock job o d Stays s u visits h runs unkept counted status.ListenFault sends = absurd sends
told_so c clock job o d Stays s u visits h runs unkept counted status.ThreadFault sends = absurd sends

-- the tally that was written is that of the visits, and so is the count that was handed on
pub job_tells : (c : Catalogue) (clock : Readings) (job : Job) (o : Outside) (d : DiskChange) (Stays : Type 0) (s u : State) (visits : List LoneVisit)
    → HasOpened c clock d s u → RunsAndSaves o.told o.renders o.disk job visits s u → (tally : Tally) → tally ≡ tally_of (map (λ v. v.end) visits) → (e : Status) → Sends (output_of o) (job_text job.kind tally) e
    → IsDoneSo c clock job o d Stays tally.unkept e
job_tells c clock job o d Stays s u visits h runs tally same e sends =
    told_so c clock job o d Stays s u visits h runs tally.unkept (ap (λ (t : Tally). t.unkept) same) e (subst (λ t. Sends (output_of o) (job_text job.kind t) e) same sends)
