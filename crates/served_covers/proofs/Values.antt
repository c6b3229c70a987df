-- What a filter wants of a layer's dimensions, place by place.
use Rattle.std.proofs.Common.{◌≡◌, ℕ, ◌<◌, List, length, Option, Some, None, slice_get}
use Rattle.std.specs.Prelude.{IsSomeAnd}
use Rattle.catalog.specs.declared.catalogue.Catalogue.{Catalogue}
use Rattle.catalog.specs.LookUp.{dimension_at}
use Rattle.served_covers.specs.OfCatalogue.{HasWanted}

-- each value that is wanted is there exactly where at each place what is wanted is there
pub each_wanted : (c : Catalogue) (layer : ℕ) (dims : List (Option ℕ)) → ((dim value : ℕ) → slice_get dims dim ≡ Some (Some value) → IsSomeAnd (dimension_at c layer dim) (λ d. value < length d.values))
    → (place : ℕ) (wanted : Option ℕ) → slice_get dims place ≡ Some wanted → HasWanted c layer place wanted
each_wanted c layer dims all place None e = record { there = tt }
each_wanted c layer dims all place (Some value) e = record { there = all place value e }

pub each_value : (c : Catalogue) (layer : ℕ) (dims : List (Option ℕ)) → ((place : ℕ) (wanted : Option ℕ) → slice_get dims place ≡ Some wanted → HasWanted c layer place wanted)
    → (dim value : ℕ) → slice_get dims dim ≡ Some (Some value) → IsSomeAnd (dimension_at c layer dim) (λ d. value < length d.values)
each_value c layer dims all dim value e = (all dim (Some value) e).there
