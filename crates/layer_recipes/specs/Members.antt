-- What a member of a recipe may be.
use Rattle.std.specs.Prelude.{ℕ, nat_le, if◌then◌else◌, List, [], ◌∷◌, length, Option, Some, None, option_and_then, is_some, ok_or, Ok, Err, Bool, ◌&&◌, slice_get}
use Rattle.std.specs.List.{list_all}
use Rattle.serde_json.specs.Data.{Data}
use Rattle.serde_json.specs.Find.{as_str, as_object}
use Rattle.json_forms.specs.Forms.{number_of, values_of}
use Rattle.catalog.specs.declared.catalogue.Catalogue.{Catalogue}
use Rattle.catalog.specs.LookUp.{grid_named, layer_named, serves, style_named}
use Rattle.raster_field.specs.declared.colour.Colour.{Colour}
use Rattle.layer_recipes.specs.declared.fault.RecipeField.{RecipeField}
use Rattle.layer_recipes.specs.declared.fault.RecipeField.TheVariants as field
use Rattle.layer_recipes.specs.declared.fault.RecipeFault.TheVariants.{Missing, Bad, Limit}
use Rattle.layer_recipes.specs.Outcome.{Outcome, ◌>>=◌}

-- what a value is by a form; none where it hasn't the form
abbrev pub Form : Type 0 → Type 0
Form A = Data → Option A

-- a member that has to be there, of the part of this number
abbrev pub required : {A : Type 0} → Form A → RecipeField → ℕ → Option Data → Outcome A
required form field part None = Err (Missing field part)
required form field part (Some d) = ok_or (form d) (Bad field part)

-- the identifier of a grid
abbrev pub grid : Catalogue → Form ℕ
grid c d = option_and_then (grid_named c) (as_str d)

-- a layer that serves the grid
abbrev pub if_serving : Catalogue → ℕ → ℕ → Option ℕ
if_serving c grid layer = option_and_then (λ l. if serves l grid then Some layer else None) (slice_get c.layers layer)

-- the identifier of a layer, which has to serve the grid
abbrev pub layer : Catalogue → ℕ → Form ℕ
layer c grid d = option_and_then (if_serving c grid) (option_and_then (layer_named c) (as_str d))

-- the identifier of a style of the layer
abbrev pub style : Catalogue → ℕ → Form ℕ
style c layer d = option_and_then (style_named c layer) (as_str d)

-- a whole number from 0 to 255
abbrev pub byte_of : Form ℕ
byte_of d = option_and_then (λ n. if nat_le n 255 then Some n else None) (number_of d)

-- the colour of red, green and blue
abbrev pub colour_of : Option ℕ → Option ℕ → Option ℕ → Option Colour
colour_of r g b = option_and_then (λ r. option_and_then (λ g. option_and_then (λ b. Some (record { r = r; g = g; b = b })) b) g) r

abbrev pub three : List Data → Option Colour
three (r ∷ g ∷ b ∷ []) = colour_of (byte_of r) (byte_of g) (byte_of b)
three [] = None
three (r ∷ []) = None
three (r ∷ g ∷ []) = None
three (r ∷ g ∷ b ∷ d ∷ rest) = None

-- a list of three whole numbers from 0 to 255
abbrev pub key : Form Colour
key d = option_and_then three (values_of d)

abbrev pub is_object : Data → Bool
is_object d = is_some (as_object d)

-- the parts: a list, of 1 to 8 entries, of objects
abbrev pub is_few : ℕ → Bool
is_few n = nat_le 1 n && nat_le n 8

abbrev pub limited : List Data → Outcome (List Data)
limited ds = if is_few (length ds) then Ok ds else Err (Limit field.Parts 0)

abbrev pub objects : List Data → Outcome (List Data)
objects ds = if list_all is_object ds then Ok ds else Err (Bad field.Parts 0)

abbrev pub parts : Option Data → Outcome (List Data)
parts member = required values_of field.Parts 0 member >>= limited >>= objects
