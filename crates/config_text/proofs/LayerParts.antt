-- A layer by its parts is the layer.
use Rattle.std.proofs.Common.{◌≡◌, List, Result, Ok, Err, refl}
use Rattle.serde_json.specs.Data.{Data}
use Rattle.catalog.specs.declared.grid.Grid.{Grid}
use Rattle.catalog.specs.declared.layer.Layer.{Layer}
use Rattle.catalog.specs.declared.fault.CatalogueFault.{CatalogueFault}
use Rattle.config_text.specs.Layers.{layer_of}
use Rattle.config_text.specs.Parts.{dims_in, layer_in, measures_in, numbers_in, styles_in}
use Rattle.config_text.specs.Reading.{◌>>=◌}

in_turn : {A B C : Type 0} (r : Result A CatalogueFault) (f : A → Result B CatalogueFault) (g : B → Result C CatalogueFault) → ((r >>= f) >>= g) ≡ (r >>= (λ x. f x >>= g))
in_turn (Ok x) f g = refl
in_turn (Err fault) f g = refl

pub layer_by_parts : (grids : List Grid) (before : List Layer) (d : Data) → layer_in grids before d ≡ layer_of grids before d
unfolding layer_of layer_in numbers_in styles_in dims_in measures_in
layer_by_parts grids before d = simp in_turn
