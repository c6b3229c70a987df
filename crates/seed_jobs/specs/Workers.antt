-- Who works at the places of a job.
use Rattle.std.specs.Prelude.{ℕ, ◌≡◌, true, Option, Some}
use Rattle.atomic_table.specs.Seated.{TableId}
use Rattle.cache_hall.specs.Turned.{HallPass, IsPassOf}
use Rattle.catalog.specs.declared.catalogue.Catalogue.{Catalogue}
use Rattle.job_board.specs.Hands.{MayClaim, Sheet, SheetHolding}
use Rattle.source_render.specs.Renders.{Renders}

-- a worker: its hand of the job's sheet, its pass of the hall, the number that its source tells, and what that has done
pub record JobWorker : Type 0 where
  pub hand : SheetHolding
  pub pass : HallPass
  pub source : Option ℕ
  pub renders : Renders

-- its pass is of the hall, its hand is of the sheet and has not met None, and where the hall is told to be sound its source renders the
-- catalogue's pictures
pub record MayWork (table : TableId) (c : Catalogue) (sheet : Sheet) (w : JobWorker) : Type 0 where
  pub of_hall : IsPassOf table c w.pass
  pub of_sheet : w.hand.sheet ≡ sheet
  pub may_claim : MayClaim w.hand
  pub source : w.pass.told ≡ true → w.source ≡ Some c.source
