-- The recipe of a text, or its first fault in the order of the members.
use Rattle.std.specs.Prelude.{ℕ, List, [], length, ok_or, Ok, codes}
use Rattle.serde_json.specs.Data.{Data}
use Rattle.serde_json.specs.Find.{get}
use Rattle.json_forms.specs.Forms.{object_of}
use Rattle.catalog.specs.declared.catalogue.Catalogue.{Catalogue}
use Rattle.layer_recipes.specs.declared.fault.RecipeField.TheVariants as field
use Rattle.layer_recipes.specs.declared.fault.RecipeFault.TheVariants.{NotJson}
use Rattle.layer_recipes.specs.declared.recipe.Part.{Part}
use Rattle.layer_recipes.specs.Dimensions.{theme_in}
use Rattle.layer_recipes.specs.Members as forms
use Rattle.layer_recipes.specs.Members.{required}
use Rattle.layer_recipes.specs.Outcome.{Outcome, entries, ◌>>=◌}

-- a part on the grid of this number; the number of the part is for its faults
unfoldable pub part_in : Catalogue → ℕ → ℕ → Data → Outcome Part
part_in c grid part d = do
  layer ← required (forms.layer c grid) field.Layer part (get (codes "layer") d)
  style ← required (forms.style c layer) field.Style part (get (codes "style") d)
  theme ← theme_in c part layer style (get (codes "dimensions") d)
  key ← required forms.key field.Key part (get (codes "key") d)
  Ok (record { theme = theme; key = key })

-- the grid and the parts from the top down: a member a line
unfoldable pub recipe_in : Catalogue → Data → Outcome (ℕ × List Part)
recipe_in c d = do
  grid ← required (forms.grid c) field.Grid 0 (get (codes "grid") d)
  objects ← forms.parts (get (codes "parts") d)
  parts ← entries (λ before. part_in c grid (length before)) [] objects
  Ok (grid, parts)

-- the recipe of a text
unfoldable pub recipe_of : Catalogue → List ℕ → Outcome (ℕ × List Part)
recipe_of c text = ok_or (object_of text) NotJson >>= recipe_in c
