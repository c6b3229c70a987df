-- Blobs that are cut out of what a source gave.
use Rattle.std.specs.Prelude.{ℕ, ◌≡◌, List, Contains}
use Rattle.catalog.specs.declared.catalogue.Catalogue.{Catalogue}
use Rattle.metatile_locks.specs.Tickets.{Ticketed}
use Rattle.ppm_slice.specs.OfCatalogue.{blob_cut}
use Rattle.raster_field.specs.Rasters.{Image, window_in}
use Rattle.source_render.specs.Renders.{GivenImage, given_image}

-- the blob is cut out of an image that the source gave for this ticket, of the window of its metatile
pub record IsCutOf (c : Catalogue) (gave : List GivenImage) (t : Ticketed) (blob : List ℕ) : Type 0 where
  pub image : Image
  pub given : Contains gave (given_image t (window_in c t.meta) image)
  pub cut : blob ≡ blob_cut c t.meta image
