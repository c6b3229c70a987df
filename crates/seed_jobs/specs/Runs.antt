-- The jobs that a runner takes from a board, and what becomes of each.
use Rattle.std.specs.Prelude.{◌≡◌, ◌⊎◌, Bool, true, false, List, [], ◌∷◌, ◌++◌, length, map, reverse, Some, None}
use Rattle.catalog.specs.declared.catalogue.Catalogue.{Catalogue}
use Rattle.job_places.specs.declared.tally.Tally.{Tally}
use Rattle.job_board.specs.declared.posted.Posted.{Posted}
use Rattle.job_board.specs.declared.posted.WatchedJob.{WatchedJob}
use Rattle.job_board.specs.declared.shown.BoardCommand.TheVariants as command
use Rattle.job_board.specs.declared.shown.BoardNote.{BoardNote}
use Rattle.job_board.specs.declared.shown.BoardReply.{BoardReply}
use Rattle.job_board.specs.declared.shown.BoardReply.TheVariants as reply
use Rattle.job_board.specs.Boards.{IsOver}
use Rattle.job_board.specs.Calls.{BoardHolding}
use Rattle.job_board.specs.Hands.{Sheet, SheetHolding}
use Rattle.job_forms.specs.declared.job.Job.{Job}
use Rattle.job_forms.specs.Job.{Fits}
use Rattle.job_forms.specs.Places.{places}
use Rattle.seed_jobs.specs.Crews.{AreShared, HaveWorked, SeesEnd, hands_of, total_of}
use Rattle.seed_jobs.specs.Workers.{JobWorker}
use Rattle.truncation_list.specs.Books.{AnswersForFronted}
use Rattle.turnstile.specs.declared.view.Made.{Made}
use Rattle.seed_jobs.specs.Idles.{Idle, Standby, without_hand}
use Rattle.seed_jobs.specs.Turns.{MakesTurns}

-- the job fits the catalogue, its sheet has the job's places, and there is a hand for each of its threads
pub record IsRunnable (c : Catalogue) (p : Posted) : Type 0 where
  pub fits : Fits c p.job
  pub places_are : p.sheet.value.places ≡ length (places c p.job)
  pub hands_are : length p.hands.items ≡ p.job.threads

-- The last members got the hands of the job's sheet, one each, and worked until each hand met None; then they were idle again, at their
-- places. The others did nothing.
pub record IsJobRunByCrew (c : Catalogue) (job : Job) (sheet : Sheet) (hands : List SheetHolding) (before after : List Idle) : Type 0 where
  pub others : List Idle
  pub crew : List JobWorker
  pub crew_after : List JobWorker
  pub tallies : List Tally
  pub were : before ≡ others ++ reverse (map without_hand crew)
  pub are : after ≡ others ++ reverse (map without_hand crew_after)
  pub hands_are : hands_of crew ≡ hands
  pub worked : HaveWorked c job crew crew_after tallies
  pub shared : AreShared sheet (hands_of crew_after) (total_of tallies).places

-- The board was told of the end of this job, in a turn that found it there, by a watch of its sheet which has seen the end: so many places
-- done, so many failed, and so many not kept. From then on it is over, with these numbers
pub record IsToldOfEnd (p : Posted) (total : Tally) (turn : Made BoardNote) : Type 0 where
  pub job : WatchedJob
  pub does : turn.note.command ≡ command.Finish p.number job
  pub sees : SeesEnd p.sheet.value total.done total.failed total.unkept job.watch
  pub found : turn.note.reply ≡ reply.Finish true
  pub over : IsOver turn.note.after p.number total.done total.failed total.unkept

-- a job that can be run was run, and one turn told the board of its end, with all that its crew came to; any other was left
abbrev pub Runs : Catalogue → Posted → List (Made BoardNote) → List Idle → List Idle → Type 0
Runs c p ending before after =
    ((run : IsJobRunByCrew c p.job p.sheet.value p.hands.items before after) × (turn : Made BoardNote) × (ending ≡ turn ∷ []) × IsToldOfEnd p (total_of run.tallies) turn) ⊎ (¬ (IsRunnable c p) × (ending ≡ []) × (after ≡ before))

-- a posted job became this, and these turns were made of it
pub record HasRunOut (c : Catalogue) (p : Posted) (before after : BoardHolding) (idle_before idle_after : List Idle) : Type 0 where
  pub ending : List (Made BoardNote)
  pub makes : MakesTurns before after ending
  pub runs : Runs c p ending idle_before idle_after

-- a turn that looked for a job, and those that it led to
pub record Round : Type 0 where
  pub look : Made BoardNote
  pub ending : List (Made BoardNote)

abbrev pub turns_of : List Round → List (Made BoardNote)
turns_of [] = []
turns_of (r ∷ rs) = (r.look ∷ r.ending) ++ turns_of rs

-- what a reply at the board brings about, with the turns that follow it: what a `next` posts is run, and where none waits nothing is done.
-- There are no other replies
abbrev pub DoesAfter : Catalogue → BoardReply → List (Made BoardNote) → List Idle → List Idle → Type 0
DoesAfter c (reply.Next (Some p)) ending before after = Runs c p ending before after
DoesAfter c (reply.Next None) ending before after = (ending ≡ []) × (after ≡ before)
DoesAfter c (reply.Submit n) ending before after = ⊥
DoesAfter c (reply.Look p) ending before after = ⊥
DoesAfter c (reply.Stop is) ending before after = ⊥
DoesAfter c (reply.Finish is) ending before after = ⊥

-- one look after the other: what each posted is run, and told to have ended, before the following one
abbrev pub AreRun : Catalogue → List Round → List Idle → List Idle → Type 0
AreRun c [] before after = after ≡ before
AreRun c (r ∷ rs) before after = (between : List Idle) × DoesAfter c r.look.note.reply r.ending before between × AreRun c rs between after

-- one look at the board, and what it brought about; where no job was run it found none waiting
pub record RunsNext (c : Catalogue) (before after : Standby) (is_run : Bool) : Type 0 where
  pub round : Round
  pub makes : MakesTurns before.board after.board (round.look ∷ round.ending)
  pub does : DoesAfter c round.look.note.reply round.ending before.idle after.idle
  pub none : is_run ≡ false → round.look.note.reply ≡ reply.Next None

-- so far: these looks at the board and no other turns than they led to, and what was posted there was run
pub record HasRunJobs (c : Catalogue) (before after : Standby) : Type 0 where
  pub rounds : List Round
  pub makes : MakesTurns before.board after.board (turns_of rounds)
  pub are_run : AreRun c rounds before.idle after.idle

-- THE WHOLE: the last look found no job waiting, on a board with all jobs of which the runner knew before
pub record RunsAll (c : Catalogue) (before after : Standby) : Type 0 where
  pub has_run : HasRunJobs c before after
  pub but_last : List Round
  pub last_look : Made BoardNote
  pub rounds_are : has_run.rounds ≡ but_last ++ (record { look = last_look; ending = [] }) ∷ []
  pub found_none : last_look.note.reply ≡ reply.Next None
  pub found : AnswersForFronted last_look.found before.board.book
