-- What one visit does to its pass.
-- A tie between the code and its definitions: the promise can be read without it.
use Rattle.std.specs.Prelude.{ℕ, ◌≡◌, List}
use Rattle.cabinet_chest.specs.declared.shown.Note.{Note}
use Rattle.cache_hall.specs.Turned.{HallPass}
use Rattle.catalog.specs.declared.catalogue.Catalogue.{Catalogue}
use Rattle.job_places.specs.declared.place.PlaceEnd.{PlaceEnd}
use Rattle.job_places.specs.Visits.{visit_of}
use Rattle.job_forms.specs.declared.job.Job.{Job}
use Rattle.source_render.specs.Renders.{Renders}
use Rattle.turnstile.specs.Passes.{seen_by}
use Rattle.turnstile.specs.declared.view.Made.{Made}
use Rattle.seed_jobs.specs.Visits.{IsPassVisit}

-- the pass made the turns of a visit of this place, which ended so
pub record HasVisited (c : Catalogue) (job : Job) (place : ℕ) (renders_before renders_after : Renders) (before after : HallPass) (end : PlaceEnd) : Type 0 where
  pub gained : List (Made Note)
  pub is : after ≡ seen_by before after.book gained
  pub visit : IsPassVisit c before.told job (visit_of place before.book after.book renders_before renders_after gained end)
