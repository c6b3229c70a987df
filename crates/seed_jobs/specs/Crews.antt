-- What a crew does: each of its workers works, and their places are shared out.
use Rattle.std.specs.Prelude.{◌≡◌, ℕ, List, [], ◌∷◌, map, sum_by, Contains, ⊤}
use Rattle.catalog.specs.declared.catalogue.Catalogue.{Catalogue}
use Rattle.job_places.specs.declared.tally.Tally.{Tally}
use Rattle.job_board.specs.declared.standing.HandEnd.TheVariants.{AllClaimed}
use Rattle.job_board.specs.SheetCalls.{HasEnded, ShareOut, claimed_by}
use Rattle.job_board.specs.Hands.{Sheet, SheetHolding, own, watching}
use Rattle.job_forms.specs.declared.job.Job.{Job}
use Rattle.seed_jobs.specs.Workers.{JobWorker}
use Rattle.seed_jobs.specs.Works.{Works}

-- each worker worked, and came to the tally at its place
abbrev pub HaveWorked : Catalogue → Job → List JobWorker → List JobWorker → List Tally → Type 0
HaveWorked c job [] [] [] = ⊤
HaveWorked c job (b ∷ before) (a ∷ after) (t ∷ tallies) = Works c job b a t × HaveWorked c job before after tallies
HaveWorked c job [] (a ∷ after) tallies = ⊥
HaveWorked c job [] [] (t ∷ tallies) = ⊥
HaveWorked c job (b ∷ before) [] tallies = ⊥
HaveWorked c job (b ∷ before) (a ∷ after) [] = ⊥

-- the counts of all together
abbrev pub total_of : List Tally → Tally
total_of ts = record { places = sum_by (λ (t : Tally). t.places) ts; done = sum_by (λ (t : Tally). t.done) ts; failed = sum_by (λ (t : Tally). t.failed) ts; unkept = sum_by (λ (t : Tally). t.unkept) ts }

abbrev pub hands_of : List JobWorker → List SheetHolding
hands_of ws = map (λ w. w.hand) ws

-- the places that they claimed are so many, each claimed by one hand, once; and where a hand met None since all places were claimed, these
-- are all places
pub record AreShared (sheet : Sheet) (hands : List SheetHolding) (claimed : ℕ) : Type 0 where
  pub count : claimed ≡ claimed_by hands
  pub shared : ShareOut sheet.places hands
  pub all : (h : SheetHolding) → Contains hands h → (own h).end ≡ AllClaimed → claimed ≡ sheet.places

-- a watch of the sheet that has seen the end of the job: each hand has met None and reported all that it claimed, so many places done, so
-- many failed, and so many not kept
pub record SeesEnd (sheet : Sheet) (done failed unkept : ℕ) (watch : SheetHolding) : Type 0 where
  pub is : watch ≡ watching sheet watch.seen
  pub ended : HasEnded sheet.hands watch.seen done failed unkept
