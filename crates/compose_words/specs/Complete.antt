-- Where what a composition is handed is in order, and nothing fails, it is done.
use Rattle.std.specs.Prelude.{ℕ, ◌≡◌, ◌⊎◌, ◌≤◌, Bool, true, false, IsSome, List, length, Some, Ok, ⊤}
use Rattle.std.specs.List.{AllByRecursion}
use Rattle.catalog.specs.declared.catalogue.Catalogue.{Catalogue}
use Rattle.base.specs.Causes.{Rose}
use Rattle.command_setup.specs.Setup.{HasRisen}
use Rattle.config_text.specs.Text.{catalogue_of}
use Rattle.layer_recipes.specs.declared.recipe.Part.{Part}
use Rattle.layer_recipes.specs.Recipes.{recipe_of}
use Rattle.schedule_text.specs.declared.line.TheConstants.{LINE_LIMIT}
use Rattle.tile_service.specs.Lines.{lines_of}
use Rattle.sessions.specs.Outside.{InputChange}
use Rattle.compose_words.specs.declared.end.ComposeEnd.{ComposeEnd}
use Rattle.compose_words.specs.declared.end.ComposeEnd.TheVariants as end
use Rattle.compose_words.specs.Ends.{ComposeChange, recipe_line, rest_of}
use Rattle.compose_words.specs.Orders.{order_of}

-- the bytes of an input are modelled, are no more than this, and have P
pub record HasText (limit : ℕ) (i : InputChange) (P : List ℕ → Type 0) : Type 0 where
  pub text : List ℕ
  pub from : i.from ≡ Some text
  pub short : length text ≤ limit
  pub holds : P text

-- the first line is a recipe, and each line behind it gives an order for it
pub record IsComposition (c : Catalogue) (text : List ℕ) : Type 0 where
  pub grid : ℕ
  pub parts : List Part
  pub short : length (recipe_line text) ≤ LINE_LIMIT
  pub recipe : recipe_of c (recipe_line text) ≡ Ok (grid, parts)
  pub orders : AllByRecursion (λ line. IsSome (order_of c grid line)) (rest_of (lines_of text))

-- both texts are in order
abbrev pub IsInOrder : ComposeChange → Type 0
IsInOrder h = (c : Catalogue) × HasText 1048576 h.catalogue (λ text. catalogue_of text ≡ Ok c) × HasText 16777216 h.input (IsComposition c)

-- no read failed, and neither did a write
pub record NothingFails (h : ComposeChange) : Type 0 where
  pub catalogue : HasRisen h.catalogue → ⊥
  pub input : HasRisen h.input → ⊥
  pub output : Rose h.outer.output.writes.before h.outer.output.writes.after → ⊥

-- where all is in order and nothing fails, a composition is done, or memory ran out; a source that fails ends nothing
abbrev pub IsComplete : ComposeChange → Bool → ComposeEnd → Type 0
IsComplete h false e = ⊤
IsComplete h true e = IsInOrder h → NothingFails h → (e ≡ end.Done) ⊎ (e ≡ end.OutOfMemory)
