-- What a quota counts.
use Rattle.std.specs.Prelude.{ℕ, ◌==◌, Bool, true}
use Rattle.catalog.specs.declared.catalogue.Scope.{Scope}
use Rattle.catalog.specs.declared.catalogue.Scope.TheVariants.{Layer, All}

-- the layer is counted
abbrev pub is_in : Scope → ℕ → Bool
is_in (Layer counted) layer = layer == counted
is_in All layer = true
