-- Blobs that are cut out of what a source gave.
use Rattle.std.proofs.Common.{ℕ, ◌≡◌, List, [], ◌∷◌, ◌++◌, Contains, sym, subst}
use Rattle.std.proofs.lemmas.List.Elements.{Contains-append_left, Contains-push}
use Rattle.catalog.specs.declared.catalogue.Catalogue.{Catalogue}
use Rattle.metatile_locks.specs.Tickets.{Ticketed}
use Rattle.raster_field.specs.Rasters.{window_in}
use Rattle.source_render.specs.Renders.{GivenImage, StaysGiven, given_image}
use Rattle.cache_core.specs.Given.{IsCutOf}

-- what was given last is among what was given
pub given_last : (before after : List GivenImage) (g : GivenImage) → after ≡ before ++ g ∷ [] → Contains after g
given_last before after g is = subst (λ (gave : List GivenImage). Contains gave g) (sym is) (Contains-push before g)

-- a blob that is cut out of what was given still is, where more was given
pub cut_later : (c : Catalogue) (before after : List GivenImage) (t : Ticketed) (blob : List ℕ) → StaysGiven before after → IsCutOf c before t blob → IsCutOf c after t blob
cut_later c before after t blob stays h = record {
  image = h.image;
  given = subst (λ (gave : List GivenImage). Contains gave (given_image t (window_in c t.meta) h.image)) (sym stays.1) (Contains-append_left before stays.0 (given_image t (window_in c t.meta) h.image) h.given);
  cut = h.cut;
}
