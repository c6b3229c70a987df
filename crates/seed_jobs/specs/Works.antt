-- What a worker does: it visits the places that its hand claims, until that meets None.
use Rattle.std.specs.Prelude.{◌≡◌, ◌≢◌, ◌+◌, ◌≤◌, List, ◌++◌, length, map}
use Rattle.catalog.specs.declared.catalogue.Catalogue.{Catalogue}
use Rattle.job_places.specs.declared.tally.Tally.{Tally}
use Rattle.job_places.specs.Tallies.{tally_of}
use Rattle.job_places.specs.Visits.{Visit}
use Rattle.job_board.specs.declared.standing.HandAccount.{HandAccount}
use Rattle.job_board.specs.declared.standing.HandEnd.{HandEnd}
use Rattle.job_board.specs.declared.standing.HandEnd.TheVariants.{Open}
use Rattle.job_board.specs.Hands.{SheetHolding, own}
use Rattle.job_forms.specs.declared.job.Job.{Job}
use Rattle.turnstile.specs.Passes.{seen_by}
use Rattle.seed_jobs.specs.Visits.{AreVisits, done_of, failed_of, turns_of, unkept_of, visited}
use Rattle.seed_jobs.specs.Workers.{JobWorker}

-- an account that gained these visits and then stands so
abbrev pub gaining_all : List Visit → HandEnd → HandAccount → HandAccount
gaining_all vs end a = record { claimed = a.claimed ++ visited vs; done = a.done + length (done_of vs); unkept = a.unkept + length (unkept_of vs); failed = a.failed + length (failed_of vs); end = end }

-- the hand claimed the places of these visits, in order, and reported each as it counts
pub record HandGains (before after : SheetHolding) (vs : List Visit) (end : HandEnd) : Type 0 where
  pub same_sheet : after.sheet ≡ before.sheet
  pub same_number : after.number ≡ before.number
  pub account : own after ≡ gaining_all vs end (own before)
  pub done : after.done ≡ before.done ++ done_of vs
  pub failed : after.failed ≡ before.failed ++ failed_of vs

-- so far: the hand stands so, and the pass made the turns of these visits and no others
pub record HasWorkedAtJob (c : Catalogue) (job : Job) (before after : JobWorker) (tally : Tally) (end : HandEnd) : Type 0 where
  pub visits : List Visit
  pub made : after.pass ≡ seen_by before.pass after.pass.book (turns_of visits)
  pub are_visits : AreVisits c before.pass.told job before.pass.book before.renders visits after.pass.book after.renders
  pub gains : HandGains before.hand after.hand visits end
  pub counts : tally ≡ tally_of (map (λ v. v.end) visits)
  pub same_source : after.source ≡ before.source

-- THE WHOLE: the hand has met None; what is done and what failed is all that it claimed, and no more than all places
pub record Works (c : Catalogue) (job : Job) (before after : JobWorker) (tally : Tally) : Type 0 where
  pub end : HandEnd
  pub met_none : end ≢ Open
  pub worked : HasWorkedAtJob c job before after tally end
  pub adds_up : tally.done + tally.failed ≡ tally.places
  pub within : tally.places ≤ before.hand.sheet.places
