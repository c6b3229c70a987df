-- What reading a recipe comes to, and what running the lines behind it does.
-- A tie between the code and its definitions: the promise can be read without it.
use Rattle.std.specs.Prelude.{ℕ, ◌≡◌, ◌⊎◌, ◌<◌, ◌≤◌, List, length, Ok, ⊤}
use Rattle.cabinet.specs.State.{State}
use Rattle.catalog.specs.declared.catalogue.Catalogue.{Catalogue}
use Rattle.layer_recipes.specs.declared.recipe.Part.{Part}
use Rattle.layer_recipes.specs.Recipes.{recipe_of}
use Rattle.schedule_text.specs.declared.line.TheConstants.{LINE_LIMIT}
use Rattle.compose_words.specs.declared.end.ComposeEnd.{ComposeEnd}
use Rattle.compose_words.specs.declared.end.ComposeEnd.TheVariants as end
use Rattle.compose_words.specs.declared.lines.CompositionLinesEnd.TheVariants as lines_end
use Rattle.compose_words.specs.Ends.{HasRunLines, IsNoRecipe, Outer}

-- a line is this recipe
pub record IsRecipe (c : Catalogue) (line : List ℕ) (grid : ℕ) (parts : List Part) : Type 0 where
  pub short : length line ≤ LINE_LIMIT
  pub reads : recipe_of c line ≡ Ok (grid, parts)

-- a line gives no recipe, and a composition ends so
abbrev pub IsUnread : Catalogue → List ℕ → ComposeEnd → Type 0
IsUnread c line (end.Line n) = (LINE_LIMIT < length line) × (n ≡ 1)
IsUnread c line (end.Recipe f) = IsNoRecipe c line f
IsUnread c line end.OutOfMemory = ⊤
IsUnread c line end.Done = ⊥
IsUnread c line end.WriteFault = ⊥
IsUnread c line end.Usage = ⊥
IsUnread c line (end.Catalogue f) = ⊥
IsUnread c line end.ReadFault = ⊥
IsUnread c line end.TooLong = ⊥

-- the lines behind a recipe were run from this cabinet, and a composition ends so
abbrev pub LinesTell : Outer → Type 0 → State → ℕ → List Part → List (List ℕ) → ComposeEnd → Type 0
LinesTell x Quiet s grid parts lines end.Done = HasRunLines x s grid parts lines lines_end.Done
LinesTell x Quiet s grid parts lines (end.Line n) = HasRunLines x s grid parts lines (lines_end.Line n)
LinesTell x Quiet s grid parts lines end.WriteFault = HasRunLines x s grid parts lines lines_end.WriteFault
LinesTell x Quiet s grid parts lines end.OutOfMemory = Quiet ⊎ HasRunLines x s grid parts lines lines_end.OutOfMemory
LinesTell x Quiet s grid parts lines (end.Recipe f) = ⊥
LinesTell x Quiet s grid parts lines end.Usage = ⊥
LinesTell x Quiet s grid parts lines (end.Catalogue f) = ⊥
LinesTell x Quiet s grid parts lines end.ReadFault = ⊥
LinesTell x Quiet s grid parts lines end.TooLong = ⊥
