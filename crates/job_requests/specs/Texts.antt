-- The texts that are told of a job, as JSON (RFC 8259).
use Rattle.std.specs.Prelude.{ℕ, suc, Bool, true, false, List, [], ◌∷◌, ◌++◌, codes, decimal}
use Rattle.job_board.specs.declared.progress.Progress.{Progress}
use Rattle.job_board.specs.declared.status.JobState.{JobState}
use Rattle.job_board.specs.declared.status.JobState.TheVariants as state
use Rattle.job_board.specs.declared.status.JobStatus.{JobStatus}
use Rattle.job_forms.specs.declared.job.JobKind.{JobKind}
use Rattle.job_forms.specs.declared.job.JobKind.TheVariants.{Reseed, Seed, Truncate}

abbrev pub bool_text : Bool → List ℕ
bool_text true = codes "true"
bool_text false = codes "false"

-- the number of a job that was submitted
abbrev pub submitted_text : ℕ → List ℕ
submitted_text number = codes "{\"job\":" ++ decimal number ++ codes "}\n"

-- a member with a number, behind its label
unfoldable pub member : List ℕ → ℕ → List ℕ
member label number = label ++ decimal number

-- how far the job of a number is
unfoldable pub progress_text : ℕ → Progress → List ℕ
progress_text number p =
    member (codes "{\"job\":") number ++ member (codes ",\"places\":") p.places ++ member (codes ",\"claimed\":") p.claimed ++ member (codes ",\"done\":") p.done ++ member (codes ",\"failed\":") p.failed
    ++ codes ",\"cancelled\":" ++ bool_text p.cancelled ++ codes "}\n"

-- THE BOARD, a line for each job

abbrev pub kind_text : JobKind → List ℕ
kind_text Seed = codes "seed"
kind_text Reseed = codes "reseed"
kind_text Truncate = codes "truncate"

abbrev pub state_text : JobState → List ℕ
state_text state.Waiting = codes "waiting"
state_text state.Running = codes "running"
state_text state.Done = codes "done"
state_text state.Cancelled = codes "cancelled"

-- a member with a name, behind its label and the mark that opens it
unfoldable pub name_text : List ℕ → List ℕ → List ℕ
name_text label name = label ++ name

-- what the job of a number does, where it stands, and how far it is
unfoldable pub status_text : ℕ → JobStatus → List ℕ
status_text number s =
    member (codes "{\"job\":") number ++ name_text (codes ",\"type\":\"") (kind_text s.kind) ++ name_text (codes "\",\"state\":\"") (state_text s.state) ++ member (codes "\",\"places\":") s.progress.places
    ++ member (codes ",\"claimed\":") s.progress.claimed ++ member (codes ",\"done\":") s.progress.done ++ member (codes ",\"failed\":") s.progress.failed ++ member (codes ",\"unkept\":") s.progress.unkept
    ++ codes ",\"cancelled\":" ++ bool_text s.progress.cancelled ++ codes "}\n"

-- of the jobs from a number on, each
abbrev pub statuses_text : ℕ → List JobStatus → List ℕ
statuses_text n [] = []
statuses_text n (s ∷ ss) = status_text n s ++ statuses_text (suc n) ss
