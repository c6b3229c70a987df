-- How large a job is.
use Rattle.std.specs.Prelude.{ℕ, length, sum_by}
use Rattle.catalog.specs.declared.catalogue.Catalogue.{Catalogue}
use Rattle.job_forms.specs.declared.job.Job.{Job}
use Rattle.job_forms.specs.Places.{Cut, Metatile, Place, places}
use Rattle.job_sizes.specs.declared.sizes.JobSize.{JobSize}
use Rattle.raster_field.specs.Blocks.{blob_size}

-- the bytes of the blob at a place: those of its metatile, cut to its matrix; a cut has none
abbrev pub place_bytes : Catalogue → Place → ℕ
place_bytes c (Metatile m) = blob_size c m
place_bytes c (Cut cover) = 0

-- how many places a job has, and the bytes of the blobs at all of them
abbrev pub size_of : Catalogue → Job → JobSize
size_of c job = record { places = length (places c job); bytes = sum_by (place_bytes c) (places c job) }
