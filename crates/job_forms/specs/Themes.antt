-- The themes that a cover is for, in order: by style, then by the values of the dimensions, the last dimension fastest.
use Rattle.std.specs.Prelude.{ℕ, ◌+◌, List, [], ◌∷◌, length, map, Option, Some, None, slice_get}
use Rattle.std.specs.List.{flat_map, range_with_len}
use Rattle.std.specs.Option.{option_map_or}
use Rattle.catalog.specs.declared.catalogue.Catalogue.{Catalogue}
use Rattle.catalog.specs.LookUp.{values_at}
use Rattle.matrix_geometry.specs.declared.theme.Theme.{Theme}
use Rattle.truncation_list.specs.declared.cover.Cover.{Cover}

-- the one number that is wanted, or all below the count where any is
abbrev pub wanted_of : ℕ → Option ℕ → List ℕ
wanted_of count None = range_with_len 0 count
wanted_of count (Some number) = number ∷ []

-- how many styles the layer has
abbrev pub styles_of : Catalogue → ℕ → ℕ
styles_of c layer = option_map_or (λ l. length l.styles) (slice_get c.layers layer) 0

-- the values of the layer's dimensions from this place on that are wanted, the last place fastest
unfoldable pub values_from : Catalogue → ℕ → ℕ → List (Option ℕ) → List (List ℕ)
values_from c layer place [] = [] ∷ []
values_from c layer place (wanted ∷ rest) =
    flat_map (λ value. map (λ values. value ∷ values) (values_from c layer (place + 1) rest)) (wanted_of (values_at c layer place) wanted)

-- those of one style
abbrev pub themes_with : Catalogue → Cover → ℕ → List Theme
themes_with c cover style =
    map (λ values. record { layer = cover.layer; style = style; dims = values }) (values_from c cover.layer 0 cover.filter.dims)

unfoldable pub themes : Catalogue → Cover → List Theme
themes c cover = flat_map (themes_with c cover) (wanted_of (styles_of c cover.layer) cover.filter.style)
