-- The values of a layer's dimensions, read in the catalogue's order.
use Rattle.std.specs.Prelude.{ℕ, ◌+◌, List, [], ◌∷◌, Option, Some, None, ok_or, option_and_then, Result, Ok, Err, slice_set}
use Rattle.catalog.specs.declared.catalogue.Catalogue.{Catalogue}
use Rattle.catalog.specs.LookUp.{dimension_at, value_named}
use Rattle.dimension_key.specs.declared.draft.DimFault.{DimFault}
use Rattle.dimension_key.specs.declared.draft.DimFault.TheVariants.{Missing, Invalid}
use Rattle.dimension_key.specs.declared.draft.ThemeDraft.{ThemeDraft}

-- no value was read yet
abbrev pub draft_of : ℕ → ℕ → ThemeDraft
draft_of layer style = record { theme = record { layer = layer; style = style; dims = 0 ∷ 0 ∷ 0 ∷ 0 ∷ [] }; count = 0 }

-- the number of a dimension's default
abbrev pub default_of : Catalogue → ℕ → ℕ → Option ℕ
default_of c layer dim = option_and_then (λ d. d.default) (dimension_at c layer dim)

-- the number of a value of a dimension of a layer, of its default where none is given
abbrev pub number_in : Catalogue → ℕ → ℕ → Option (List ℕ) → Result ℕ DimFault
number_in c layer dim None = ok_or (default_of c layer dim) Missing
number_in c layer dim (Some text) = ok_or (value_named c layer dim text) Invalid

-- the number of one more value
abbrev pub with_number : ThemeDraft → ℕ → ThemeDraft
with_number t number =
    record {
      theme = record { layer = t.theme.layer; style = t.theme.style; dims = slice_set t.theme.dims t.count number };
      count = t.count + 1;
    }

abbrev pub or_fault : ThemeDraft → Result ℕ DimFault → Result ThemeDraft DimFault
or_fault t (Ok number) = Ok (with_number t number)
or_fault t (Err fault) = Err fault

-- the draft with the value of the layer's next dimension
abbrev pub drafted : Catalogue → Option (List ℕ) → ThemeDraft → Result ThemeDraft DimFault
drafted c value t = or_fault t (number_in c t.theme.layer t.count value)
