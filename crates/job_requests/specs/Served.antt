-- What a request for a job comes to: the turns that are made for it at the board, and the outcome that they are answered by.
use Rattle.std.specs.Prelude.{ℕ, suc, ◌≡◌, ◌+◌, ◌⊎◌, Bool, true, false, List, [], ◌∷◌, length, Option, Some, None}
use Rattle.catalog.specs.declared.catalogue.Catalogue.{Catalogue}
use Rattle.job_board.specs.declared.shown.BoardCommand.TheVariants as command
use Rattle.job_board.specs.declared.shown.BoardReply.TheVariants as reply
use Rattle.job_board.specs.Calls.{BoardHolding, MakesNone, MakesOne}
use Rattle.job_board.specs.declared.status.JobStatus.{JobStatus}
use Rattle.job_forms.specs.declared.job.Job.{Job}
use Rattle.job_forms.specs.Places.{places}
use Rattle.tile_requests.specs.declared.outcome.Outcome.{Outcome}
use Rattle.tile_requests.specs.declared.outcome.Outcome.TheVariants as outcome
use Rattle.tile_requests.specs.declared.outcome.Plain.TheVariants as plain
use Rattle.tile_requests.specs.Requests.{told_at}
use Rattle.job_requests.specs.declared.request.JobRequest.{JobRequest}
use Rattle.job_requests.specs.declared.request.JobRequest.TheVariants as request
use Rattle.job_requests.specs.Texts.{progress_text, status_text, statuses_text, submitted_text}

-- A SUBMISSION

-- its number, while memory is left for the text
abbrev pub outcome_of_submission : Option ℕ → Bool → Outcome
outcome_of_submission (Some n) left = told_at left (outcome.Job (submitted_text n))
outcome_of_submission None left = outcome.Plain plain.BoardFull

-- one turn, of the job with as many places as it has, which says what is answered; or memory ran out for it
abbrev pub IsSubmissionServed : Catalogue → Job → BoardHolding → BoardHolding → Outcome → Type 0
IsSubmissionServed c job before after o =
    ((n : Option ℕ) × (left : Bool) × MakesOne before after (command.Submit job (length (places c job))) (reply.Submit n) × (o ≡ outcome_of_submission n left)) ⊎ (MakesNone before after × (o ≡ outcome.Plain plain.NoMemory))

-- A LOOK

-- how far the job is, while memory is left for the text; nothing where there is no such job
abbrev pub outcome_of_look : ℕ → Option JobStatus → Bool → Outcome
outcome_of_look n (Some s) left = told_at left (outcome.Job (progress_text n s.progress))
outcome_of_look n None left = outcome.Plain plain.NotFound

-- one turn, which says what is answered
abbrev pub IsLookServed : ℕ → BoardHolding → BoardHolding → Outcome → Type 0
IsLookServed n before after o = (s : Option JobStatus) × (left : Bool) × MakesOne before after (command.Look n) (reply.Look s) × (o ≡ outcome_of_look n s left)

-- A STOP

-- one turn, and where it found the job a look after it
abbrev pub IsStopServed : ℕ → BoardHolding → BoardHolding → Outcome → Type 0
IsStopServed n before after o =
    (MakesOne before after (command.Stop n) (reply.Stop false) × (o ≡ outcome.Plain plain.NotFound)) ⊎ ((between : BoardHolding) × MakesOne before between (command.Stop n) (reply.Stop true) × IsLookServed n between after o)

-- A LOOK AT THE BOARD

-- where the job stands, in full, while memory is left for the text; nothing where there is no such job
abbrev pub outcome_of_status : ℕ → Option JobStatus → Bool → Outcome
outcome_of_status n (Some s) left = told_at left (outcome.Job (status_text n s))
outcome_of_status n None left = outcome.Plain plain.NotFound

-- one turn, which says what is answered
abbrev pub IsStatusServed : ℕ → BoardHolding → BoardHolding → Outcome → Type 0
IsStatusServed n before after o = (s : Option JobStatus) × (left : Bool) × MakesOne before after (command.Look n) (reply.Look s) × (o ≡ outcome_of_status n s left)

-- one look after the other at the jobs from a number on, and what each found
abbrev pub AreLooks : ℕ → List JobStatus → BoardHolding → BoardHolding → Type 0
AreLooks n [] before after = after ≡ before
AreLooks n (s ∷ ss) before after = (between : BoardHolding) × MakesOne before between (command.Look n) (reply.Look (Some s)) × AreLooks (suc n) ss between after

-- there is no job behind these: a look for the next one found none, or they are as many as a board has in its life
abbrev pub AreAllJobs : List JobStatus → BoardHolding → BoardHolding → Type 0
AreAllJobs ss before after = MakesOne before after (command.Look (length ss + 1)) (reply.Look None) ⊎ ((length ss ≡ 1024) × (after ≡ before))

-- All jobs from the first on, looked at one after the other, each with its line; or memory ran out behind some of these looks
pub record AreStatusesServed (before after : BoardHolding) (o : Outcome) : Type 0 where
  pub found : List JobStatus
  pub between : BoardHolding
  pub looks : AreLooks 1 found before between
  pub told : (AreAllJobs found between after × (o ≡ outcome.Job (statuses_text 1 found))) ⊎ ((after ≡ between) × (o ≡ outcome.Plain plain.NoMemory))

-- ANY REQUEST for a job
abbrev pub ServesJob : Catalogue → JobRequest → BoardHolding → BoardHolding → Outcome → Type 0
ServesJob c (request.Submission job) before after o = IsSubmissionServed c job before after o
ServesJob c (request.Unformed fault) before after o = (after ≡ before) × (o ≡ outcome.Unformed fault)
ServesJob c (request.Look n) before after o = IsLookServed n before after o
ServesJob c (request.Stop n) before after o = IsStopServed n before after o
ServesJob c (request.Status n) before after o = IsStatusServed n before after o
ServesJob c request.Statuses before after o = AreStatusesServed before after o
ServesJob c request.NotFound before after o = (after ≡ before) × (o ≡ outcome.Plain plain.NotFound)
ServesJob c request.WrongMethod before after o = (after ≡ before) × (o ≡ outcome.Plain plain.WrongMethod)
