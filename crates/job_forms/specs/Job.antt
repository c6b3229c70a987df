-- Which jobs fit a catalogue.
use Rattle.std.specs.Prelude.{◌≤◌, length}
use Rattle.catalog.specs.declared.catalogue.Catalogue.{Catalogue}
use Rattle.served_covers.specs.OfCatalogue.{IsCoverOf}
use Rattle.job_forms.specs.declared.job.Job.{Job}
use Rattle.job_forms.specs.Places.{places}

-- its cover is of the catalogue, it has 1 to 8 threads, and few enough places
pub record Fits (c : Catalogue) (job : Job) : Type 0 where
  pub cover : IsCoverOf c job.cover
  pub threads_least : 1 ≤ job.threads
  pub threads_most : job.threads ≤ 8
  pub places : length (places c job) ≤ 10000000
