-- The job of a text, or its first fault: first in the members of its cover, then in its own two, and at last in how many
-- places it has.
use Rattle.std.specs.Prelude.{ℕ, nat_le, ◌&&◌, if◌then◌else◌, List, length, Option, Some, None, option_and_then, ok_or, Ok, Err, codes, bytes_eq}
use Rattle.serde_json.specs.Data.{Data}
use Rattle.serde_json.specs.Find.{as_str, get}
use Rattle.json_forms.specs.Forms.{number_of, object_of}
use Rattle.catalog.specs.declared.catalogue.Catalogue.{Catalogue}
use Rattle.job_forms.specs.declared.fault.JobField.TheVariants as field
use Rattle.job_forms.specs.declared.fault.JobFault.TheVariants.{NotJson, Bad, Limit}
use Rattle.job_forms.specs.Cover.{cover_of}
use Rattle.job_forms.specs.Members.{Form, required}
use Rattle.job_forms.specs.Outcome.{Outcome, ◌>>=◌}
use Rattle.truncation_list.specs.declared.cover.Cover.{Cover}
use Rattle.job_forms.specs.declared.job.Job.{Job}
use Rattle.job_forms.specs.declared.job.JobKind.{JobKind}
use Rattle.job_forms.specs.declared.job.JobKind.TheVariants.{Seed, Reseed, Truncate}
use Rattle.job_forms.specs.Places.{places}

-- what the job does, by its name
abbrev pub kind_named : List ℕ → Option JobKind
kind_named name =
    if bytes_eq name (codes "seed")
    then Some Seed
    else (if bytes_eq name (codes "reseed") then Some Reseed else (if bytes_eq name (codes "truncate") then Some Truncate else None))

abbrev pub kind : Form JobKind
kind d = option_and_then kind_named (as_str d)

-- one to eight threads
abbrev pub limited : ℕ → Outcome ℕ
limited n = if nat_le 1 n && nat_le n 8 then Ok n else Err (Limit field.Threads)

-- a whole number of them, one where the member is absent
abbrev pub threads_or_one : Option Data → Outcome ℕ
threads_or_one None = Ok 1
threads_or_one (Some d) = ok_or (number_of d) (Bad field.Threads) >>= limited

-- a job has at most so many places
abbrev pub few_enough : Catalogue → Job → Outcome Job
few_enough c job = if nat_le (length (places c job)) 10000000 then Ok job else Err (Limit field.ZoomStop)

-- the two members behind those of the cover
unfoldable pub job_in : Catalogue → Cover → Data → Outcome Job
job_in c cover d = do
  kind ← required kind field.Kind (get (codes "type") d)
  threads ← threads_or_one (get (codes "threads") d)
  few_enough c (record { kind = kind; cover = cover; threads = threads })

-- the job of a text
unfoldable pub job_of : Catalogue → List ℕ → Outcome Job
job_of c text = do
  cover ← cover_of c text
  d ← ok_or (object_of text) NotJson
  job_in c cover d
