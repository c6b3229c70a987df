-- which themes a filter admits
use Rattle.std.specs.Prelude.{ℕ, ◌==◌, ◌&&◌, Bool, true, Option, Some, None, List}
use Rattle.std.specs.List.{zip, list_all}
use Rattle.matrix_geometry.specs.declared.theme.Filter.{Filter}
use Rattle.matrix_geometry.specs.declared.theme.Theme.{Theme}

-- none admits any number
abbrev pub admits_number : Option ℕ → ℕ → Bool
admits_number None number = true
admits_number (Some only) number = only == number

-- each value is admitted
abbrev pub admits_values : List (Option ℕ) → List ℕ → Bool
admits_values wanted values = list_all (λ p. admits_number p.0 p.1) (zip wanted values)

-- the style and each value are admitted
abbrev pub admits : Filter → Theme → Bool
admits filter theme = admits_number filter.style theme.style && admits_values filter.dims theme.dims
