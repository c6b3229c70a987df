-- The job that an input has.
use Rattle.std.specs.Prelude.{◌≡◌, Result, Ok}
use Rattle.catalog.specs.declared.catalogue.Catalogue.{Catalogue}
use Rattle.command_status.specs.declared.status.Status.{Status}
use Rattle.job_forms.specs.declared.fault.JobFault.{JobFault}
use Rattle.job_forms.specs.declared.job.Job.{Job}
use Rattle.job_forms.specs.Reading.{job_of}
use Rattle.opened_cache.specs.Inputs.{HasFault, HasMore, IsRead, Reads}
use Rattle.sessions.specs.Outside.{InputChange}

-- it is the job of its text, of at most 65,536 bytes
abbrev pub IsJobIn : Catalogue → InputChange → Job → Type 0
IsJobIn c i job = IsRead 65536 (job_of c) i (λ outcome. outcome ≡ Ok job)

-- its text has this fault, which isn't want of memory
abbrev pub IsFormedSo : Catalogue → InputChange → JobFault → Type 0
IsFormedSo c i fault = HasFault 65536 (job_of c) i fault

-- one byte more than a job may have was taken
abbrev pub IsTooLong : InputChange → Type 0
IsTooLong i = HasMore 65536 i

-- what a reading of an input gave: its job, or the status of a word that has none
abbrev pub ReadsJob : Catalogue → InputChange → Result Job Status → Type 0
ReadsJob c i result = Reads 65536 (job_of c) i result
