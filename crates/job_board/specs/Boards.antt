-- The commands of a board, a row for each reply: where it comes, and the board after it.
use Rattle.std.specs.Prelude.{ℕ, ◌≡◌, ◌≤◌, ◌<◌, ◌+◌, ◌-◌, ◌==◌, ◌⊎◌, List, Bool, true, false, if◌then◌else◌, [], ◌∷◌, ◌++◌, length, Option, Some, None, slice_get, slice_set, ⊤}
use Rattle.std.specs.List.{list_any}
use Rattle.job_board.specs.declared.progress.Progress.{Progress}
use Rattle.job_board.specs.SheetCalls.{AddsUp, Cancels, HasEnded, IsSettled, StaysEnded, Tells}
use Rattle.job_board.specs.Hands.{SheetHolding, fresh_holding}
use Rattle.job_board.specs.Standings.{Later}
use Rattle.job_forms.specs.declared.job.Job.{Job}
use Rattle.truncation_list.specs.declared.book.FrontedBook.{FrontedBook}
use Rattle.job_forms.specs.declared.job.JobKind.{JobKind}
use Rattle.job_board.specs.declared.status.JobState.{JobState}
use Rattle.job_board.specs.declared.status.JobState.TheVariants as state
use Rattle.job_board.specs.declared.status.JobStatus.{JobStatus}
use Rattle.job_board.specs.declared.posted.Posted.{Posted}
use Rattle.job_board.specs.declared.posted.WatchedJob.{WatchedJob}
use Rattle.job_board.specs.declared.shown.BoardCommand.{BoardCommand}
use Rattle.job_board.specs.declared.shown.BoardCommand.TheVariants as command
use Rattle.job_board.specs.declared.shown.BoardReply.{BoardReply}
use Rattle.job_board.specs.declared.shown.BoardReply.TheVariants as reply
use Rattle.job_board.specs.declared.shown.BoardShown.{BoardShown}

-- how many jobs were submitted
abbrev pub submitted : BoardShown → ℕ
submitted b = length b.watches

-- a board lists no truncation; its floor and its front are the number of jobs, so that a turn finds all jobs that its pass has seen
abbrev pub book_of : BoardShown → FrontedBook
book_of b = record { book = record { cuts = []; floor = submitted b }; front = submitted b }

-- a board without jobs
abbrev pub empty : BoardShown
empty = record { waiting = []; watches = []; kinds = []; ends = [] }

-- SUBMIT

-- a job has 1 to 8 threads and at most 10,000,000 places
pub record MaySubmit (job : Job) (places : ℕ) : Type 0 where
  pub threads_least : 1 ≤ job.threads
  pub threads_most : job.threads ≤ 8
  pub places_most : places ≤ 10000000

-- what is to be run, under this number, has a new sheet of the places for as many hands as the job has threads, which this watch watches
pub record IsSubmission (number : ℕ) (job : Job) (places : ℕ) (p : Posted) (watch : SheetHolding) : Type 0 where
  pub number_is : p.number ≡ number
  pub job_is : p.job ≡ job
  pub places_are : p.sheet.value.places ≡ places
  pub threads_are : p.sheet.value.hands ≡ job.threads
  pub watch_is : watch ≡ fresh_holding p.sheet.value None

-- the job gets the next number, and is the last to wait; none where 64 wait or 1,024 were submitted
abbrev pub Submits : BoardShown → Job → ℕ → Option ℕ → BoardShown → Type 0
Submits b job places (Some n) a =
    (length b.waiting < 64) × (submitted b < 1024) × (n ≡ submitted b + 1) × ((p : Posted) × (watch : SheetHolding) × IsSubmission n job places p watch × (a ≡ record { waiting = b.waiting ++ p ∷ []; watches = b.watches ++ watch ∷ []; kinds = b.kinds ++ job.kind ∷ []; ends = b.ends ++ false ∷ [] }))
Submits b job places None a = ((64 ≤ length b.waiting) ⊎ (1024 ≤ submitted b)) × (a ≡ b)

-- NEXT

-- its number is one of so many jobs, from 1
pub record HasNumber (jobs : ℕ) (p : Posted) : Type 0 where
  pub least : 1 ≤ p.number
  pub most : p.number ≤ jobs

-- the first that waits is taken, which is one of the jobs of the board; none where none waits
abbrev pub TakesNext : BoardShown → Option Posted → BoardShown → Type 0
TakesNext b (Some p) a = HasNumber (submitted b) p × (b ≡ record { waiting = p ∷ a.waiting; watches = a.watches; kinds = a.kinds; ends = a.ends })
TakesNext b None a = (b.waiting ≡ []) × (a ≡ b)

-- LOOK AND STOP

-- the watch of the job of this number, from 1
abbrev pub watch_of : BoardShown → ℕ → Option SheetHolding
watch_of b n = if n == 0 then None else slice_get b.watches (n - 1)

-- the board with another watch of that job
abbrev pub with_watch : ℕ → SheetHolding → BoardShown → BoardShown
with_watch n watch b = record { waiting = b.waiting; watches = slice_set b.watches (n - 1) watch; kinds = b.kinds; ends = b.ends }

-- it is told that so many places are done, so many failed, and so many of those done not kept
pub record TellsNumbers (s : JobStatus) (done failed unkept : ℕ) : Type 0 where
  pub done_is : s.progress.done ≡ done
  pub failed_is : s.progress.failed ≡ failed
  pub unkept_is : s.progress.unkept ≡ unkept

-- one of these jobs has the number
abbrev pub is_numbered : ℕ → List Posted → Bool
is_numbered n ps = list_any (λ (p : Posted). p.number == n) ps

-- Where a job stands that waits or doesn't, and has ended or not: one that has ended is done where none of its places is left, and was cancelled
-- where some are. A job that was cancelled when no place was left is done
abbrev pub state_of : Bool → Bool → Progress → JobState
state_of true ended p = state.Waiting
state_of false false p = state.Running
state_of false true p = if p.done + p.failed == p.places then state.Done else state.Cancelled

-- What the job does, where it stands, by whether it waits and whether the board was told of its end, and how far it is, as its watch finds; and of a job of which that has seen the end it tells how it ended
pub record IsLooked (b : BoardShown) (n : ℕ) (s : JobStatus) (a : BoardShown) : Type 0 where
  pub watch : SheetHolding
  pub left : SheetHolding
  pub of_job : watch_of b n ≡ Some watch
  pub kind : slice_get b.kinds (n - 1) ≡ Some s.kind
  pub ended : Bool
  pub ended_is : slice_get b.ends (n - 1) ≡ Some ended
  pub state : s.state ≡ state_of (is_numbered n b.waiting) ended s.progress
  pub tells : Tells watch left s.progress
  pub adds_up : AddsUp watch left s.progress
  pub settled : (done failed unkept : ℕ) → HasEnded watch.sheet.hands watch.seen done failed unkept → TellsNumbers s done failed unkept
  pub stays : StaysEnded watch.sheet.hands watch.seen left.seen
  pub is : a ≡ with_watch n left b

abbrev pub Looks : BoardShown → ℕ → Option JobStatus → BoardShown → Type 0
Looks b n (Some s) a = IsLooked b n s a
Looks b n None a = (watch_of b n ≡ None) × (a ≡ b)

-- the job is cancelled by its watch
pub record IsStopped (b : BoardShown) (n : ℕ) (a : BoardShown) : Type 0 where
  pub watch : SheetHolding
  pub left : SheetHolding
  pub of_job : watch_of b n ≡ Some watch
  pub cancels : Cancels watch left
  pub stays : StaysEnded watch.sheet.hands watch.seen left.seen
  pub is : a ≡ with_watch n left b

abbrev pub Stops : BoardShown → ℕ → Bool → BoardShown → Type 0
Stops b n true a = IsStopped b n a
Stops b n false a = (watch_of b n ≡ None) × (a ≡ b)

-- FINISH

-- The watch that was handed in takes the place of the job's: it has seen all that it had, and the end that it had; and where the job's was
-- cancelled, so is it
pub record TakesOver (watch ended left : SheetHolding) : Type 0 where
  pub same_sheet : left.sheet ≡ ended.sheet
  pub later : Later ended.seen left.seen
  pub ends : StaysEnded ended.sheet.hands ended.seen left.seen
  pub cancelled : watch.seen.cancelled ≡ true → left.seen.cancelled ≡ true

-- the board with the job of this number among those that have ended
abbrev pub with_end : ℕ → BoardShown → BoardShown
with_end n b = record { waiting = b.waiting; watches = b.watches; kinds = b.kinds; ends = slice_set b.ends (n - 1) true }

-- the job has ended as this watch of its sheet has seen
pub record IsFinished (b : BoardShown) (n : ℕ) (ended : SheetHolding) (a : BoardShown) : Type 0 where
  pub watch : SheetHolding
  pub left : SheetHolding
  pub of_job : watch_of b n ≡ Some watch
  pub takes : TakesOver watch ended left
  pub is : a ≡ with_end n (with_watch n left b)

abbrev pub Finishes : BoardShown → ℕ → SheetHolding → Bool → BoardShown → Type 0
Finishes b n ended true a = IsFinished b n ended a
Finishes b n ended false a = (watch_of b n ≡ None) × (a ≡ b)

-- ANY COMMAND

abbrev pub Admits : BoardCommand → Type 0
Admits (command.Submit job places) = MaySubmit job places
Admits command.Next = ⊤
Admits (command.Look n) = ⊤
Admits (command.Stop n) = ⊤
Admits (command.Finish n job) = IsSettled job.watch.sheet.hands job.watch.seen

-- a submission alone takes memory
abbrev pub TakesNoMemory : BoardCommand → Type 0
TakesNoMemory (command.Submit job places) = ⊥
TakesNoMemory command.Next = ⊤
TakesNoMemory (command.Look n) = ⊤
TakesNoMemory (command.Stop n) = ⊤
TakesNoMemory (command.Finish n job) = ⊤

-- the reply is of its command's kind, by the command's row
abbrev pub BoardMayReply : BoardShown → BoardCommand → BoardReply → BoardShown → Type 0
BoardMayReply b (command.Submit job places) r a = (n : Option ℕ) × (r ≡ reply.Submit n) × Submits b job places n a
BoardMayReply b command.Next r a = (p : Option Posted) × (r ≡ reply.Next p) × TakesNext b p a
BoardMayReply b (command.Look n) r a = (s : Option JobStatus) × (r ≡ reply.Look s) × Looks b n s a
BoardMayReply b (command.Stop n) r a = (is : Bool) × (r ≡ reply.Stop is) × Stops b n is a
BoardMayReply b (command.Finish n job) r a = (is : Bool) × (r ≡ reply.Finish is) × Finishes b n job.watch is a

-- A JOB THAT IS OVER

-- the board has been told of the end of the job of this number: so many places done, so many failed, and so many not kept
pub record IsOver (b : BoardShown) (n done failed unkept : ℕ) : Type 0 where
  pub watch : SheetHolding
  pub of_job : watch_of b n ≡ Some watch
  pub ended : HasEnded watch.sheet.hands watch.seen done failed unkept

-- it tells of the end of the job of this number
abbrev pub TellsOfEnd : ℕ → BoardCommand → Type 0
TellsOfEnd n (command.Submit job places) = ⊥
TellsOfEnd n command.Next = ⊥
TellsOfEnd n (command.Look m) = ⊥
TellsOfEnd n (command.Stop m) = ⊥
TellsOfEnd n (command.Finish m job) = m ≡ n

-- A job that is over stays so with the same numbers, unless its end is told anew; each look at it tells these numbers; and a finish that
-- finds its job makes it one, with the numbers that the watch has seen which was handed in
pub record KeepsOver (b : BoardShown) (does : BoardCommand) (r : BoardReply) (a : BoardShown) : Type 0 where
  pub stays : (n done failed unkept : ℕ) → IsOver b n done failed unkept → ¬ (TellsOfEnd n does) → IsOver a n done failed unkept
  pub tells : (n done failed unkept : ℕ) (s : JobStatus) → IsOver b n done failed unkept → does ≡ command.Look n → r ≡ reply.Look (Some s) → TellsNumbers s done failed unkept
  pub ends : (n done failed unkept : ℕ) (job : WatchedJob) → does ≡ command.Finish n job → r ≡ reply.Finish true → HasEnded job.watch.sheet.hands job.watch.seen done failed unkept → IsOver a n done failed unkept
