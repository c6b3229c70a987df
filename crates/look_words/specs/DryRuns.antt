-- What each end of `job --dry-run` says.
use Rattle.std.specs.Prelude.{◌≡◌, ◌⊎◌, Bool, true, false, Ok, Err}
use Rattle.base.specs.Causes.{Rose}
use Rattle.catalog.specs.declared.catalogue.Catalogue.{Catalogue}
use Rattle.command_setup.specs.Refusals.{status_of_refusal}
use Rattle.command_setup.specs.Setup.{Configures, IsRead}
use Rattle.command_setup.specs.declared.configuration.Unconfigured.{Unconfigured}
use Rattle.command_status.specs.declared.status.Status.{Status}
use Rattle.command_status.specs.declared.status.Status.TheVariants as status
use Rattle.job_forms.specs.declared.job.Job.{Job}
use Rattle.job_forms.specs.Reading.{job_of}
use Rattle.job_sizes.specs.Sizes.{size_of}
use Rattle.opened_cache.specs.Change.{HasWritten, IsCutShort}
use Rattle.opened_cache.specs.Inputs.{HasFault, HasMore, IsRead as IsInputRead}
use Rattle.sessions.specs.Outside.{InputChange, OutputChange}
use Rattle.look_words.specs.declared.dry_run.TheConstants.{JOB_LIMIT}
use Rattle.look_words.specs.Texts.{size_text}

-- it is the job of the input's text
abbrev pub IsJobIn : Catalogue → InputChange → Job → Type 0
IsJobIn c i job = IsInputRead JOB_LIMIT (job_of c) i (λ outcome. outcome ≡ Ok job)

-- what each end says where the catalogue was read; `Stays` is that the output stays as it is
abbrev pub DryRuns : Catalogue → InputChange → OutputChange → Type 0 → Status → Type 0
DryRuns c i o Stays status.Done = (job : Job) × IsJobIn c i job × HasWritten o (size_text (size_of c job))
DryRuns c i o Stays status.WriteFault = (job : Job) × IsJobIn c i job × IsCutShort o (size_text (size_of c job))
DryRuns c i o Stays status.ReadFault = Rose i.reads.before i.reads.after × Stays
DryRuns c i o Stays status.TooLong = HasMore JOB_LIMIT i × Stays
DryRuns c i o Stays (status.Form cause) = HasFault JOB_LIMIT (job_of c) i cause × Stays
DryRuns c i o Stays status.OutOfMemory = Stays
DryRuns c i o Stays (status.Cache cause) = ⊥
DryRuns c i o Stays status.DiskFault = ⊥
DryRuns c i o Stays status.CutsFull = ⊥
DryRuns c i o Stays (status.Line n) = ⊥
DryRuns c i o Stays (status.Stream session) = ⊥
DryRuns c i o Stays status.Usage = ⊥
DryRuns c i o Stays (status.Catalogue fault) = ⊥
DryRuns c i o Stays status.ListenFault = ⊥
DryRuns c i o Stays status.ThreadFault = ⊥

-- what was seen of the inputs and of the output, and that each of them stays as it is
pub record DryRunChange : Type 1 where
  pub catalogue : InputChange
  pub input : InputChange
  pub output : OutputChange
  pub catalogue_stays : Type 0
  pub input_stays : Type 0
  pub output_stays : Type 0

-- Words that are none of a dry run touch nothing. Else the catalogue was refused and nothing else was touched, or it was read, and the job looked at.
abbrev pub DryRunTells : Bool → DryRunChange → Status → Type 0
DryRunTells false h s = (s ≡ status.Usage) × h.catalogue_stays × h.input_stays × h.output_stays
DryRunTells true h s =
    ((e : Unconfigured) × (s ≡ status_of_refusal e) × Configures h.catalogue (Err e) × h.input_stays × h.output_stays)
    ⊎ ((c : Catalogue) × IsRead h.catalogue (Ok c) × DryRuns c h.input h.output h.output_stays s)
