-- Recipes under names: what a text gives, or its first fault in the order of its members.
use Rattle.std.specs.Prelude.{ℕ, ◌≡◌, ◌≤◌, ◌&&◌, nat_le, if◌then◌else◌, List, [], ◌∷◌, ◌++◌, length, Option, Some, None, option_and_then, Result, Ok, Err}
use Rattle.std.specs.List.{AllByRecursion}
use Rattle.serde_json.specs.Data.{Data, Members, no_members, member}
use Rattle.serde_json.specs.Find.{as_object}
use Rattle.json_forms.specs.Forms.{object_of}
use Rattle.catalog.specs.declared.catalogue.Catalogue.{Catalogue}
use Rattle.catalog.specs.Names.{is_name, is_short, place_named}
use Rattle.layer_recipes.specs.declared.book.NamedRecipe.{NamedRecipe}
use Rattle.layer_recipes.specs.declared.book.RecipeBook.{RecipeBook}
use Rattle.layer_recipes.specs.declared.book_fault.BookFault.{BookFault}
use Rattle.layer_recipes.specs.declared.book_fault.BookFault.TheVariants as fault
use Rattle.layer_recipes.specs.declared.fault.RecipeFault.{RecipeFault}
use Rattle.layer_recipes.specs.declared.fault.RecipeFault.TheVariants as recipe
use Rattle.layer_recipes.specs.declared.recipe.Part.{Part}
use Rattle.layer_recipes.specs.OfCatalogue.{IsRecipeOf}
use Rattle.layer_recipes.specs.Outcome.{Outcome}
use Rattle.layer_recipes.specs.Recipes.{recipe_in}

-- a name, and the grid and the parts of the recipe that stands under it
abbrev pub Entry : Type 0
Entry = List ℕ × (ℕ × List Part)

abbrev pub entry_of : NamedRecipe → Entry
entry_of n = (n.name, (n.recipe.grid, n.recipe.parts.items))

-- what was read, or the first fault
abbrev pub BookOutcome : Type 0 → Type 0
BookOutcome A = Result A BookFault

-- the fault of a text whose recipe at this place has this one; want of memory is that of the text
abbrev pub of_place : ℕ → RecipeFault → BookFault
of_place at recipe.NotJson = fault.Recipe at recipe.NotJson
of_place at (recipe.Missing field part) = fault.Recipe at (recipe.Missing field part)
of_place at (recipe.Bad field part) = fault.Recipe at (recipe.Bad field part)
of_place at (recipe.Limit field part) = fault.Recipe at (recipe.Limit field part)
of_place at recipe.OutOfMemory = fault.OutOfMemory

abbrev pub placed : {A : Type 0} → ℕ → Outcome A → BookOutcome A
placed at (Ok x) = Ok x
placed at (Err f) = Err (of_place at f)

abbrev pub under : List ℕ → BookOutcome (ℕ × List Part) → BookOutcome Entry
under name (Ok r) = Ok (name, r)
under name (Err f) = Err f

-- what stands under a name, at this place of the text: at most 64 recipes, each under 1 to 64 letters, digits, _ - . :
unfoldable pub entry_in : Catalogue → ℕ → List ℕ → Data → BookOutcome Entry
entry_in c at name d =
    if nat_le 64 at then Err fault.Limit else
    (if is_name name && is_short name then under name (placed at (recipe_in c d)) else
    Err (fault.Name at))

abbrev pub and_then : BookOutcome Entry → (Entry → BookOutcome (List Entry)) → BookOutcome (List Entry)
and_then (Ok e) rest = rest e
and_then (Err f) rest = Err f

-- the members of an object, each read after those before it
unfoldable pub entries_in : Catalogue → List Entry → Members → BookOutcome (List Entry)
entries_in c before no_members = Ok before
entries_in c before (member name d ms) = and_then (entry_in c (length before) name d) (λ e. entries_in c (before ++ e ∷ []) ms)

abbrev pub entries_of : Catalogue → Option Members → BookOutcome (List Entry)
entries_of c None = Err fault.NotJson
entries_of c (Some ms) = entries_in c [] ms

-- the recipes of a text; no text gives none
abbrev pub book_of : Catalogue → List ℕ → BookOutcome (List Entry)
book_of c [] = Ok []
book_of c (b ∷ bs) = entries_of c (option_and_then as_object (object_of (b ∷ bs)))

-- the reading ends in this fault, unless memory ran out
abbrev pub FailsBook : {A : Type 0} → BookFault → BookOutcome A → Type 0
FailsBook fault.NotJson outcome = outcome ≡ Err fault.NotJson
FailsBook fault.Limit outcome = outcome ≡ Err fault.Limit
FailsBook (fault.Name at) outcome = outcome ≡ Err (fault.Name at)
FailsBook (fault.Recipe at f) outcome = outcome ≡ Err (fault.Recipe at f)
FailsBook fault.OutOfMemory outcome = Unit {0}

-- what a call returned, seen by view, is the outcome of the reading, unless memory ran out
abbrev pub GivesBook : {X A : Type 0} → (X → A) → BookOutcome X → BookOutcome A → Type 0
GivesBook view (Ok x) outcome = outcome ≡ Ok (view x)
GivesBook view (Err f) outcome = FailsBook f outcome

-- ON A CATALOGUE

abbrev pub IsNamedOf : Catalogue → NamedRecipe → Type 0
IsNamedOf c n = IsRecipeOf c n.recipe

-- at most 64 recipes, each of them on the catalogue
pub record IsBookOf (c : Catalogue) (b : RecipeBook) : Type 0 where
  pub few : length b.recipes.items ≤ 64
  pub each : AllByRecursion (IsNamedOf c) b.recipes.items

-- the place of the recipe of this name
abbrev pub recipe_named : RecipeBook → List ℕ → Option ℕ
recipe_named b name = place_named (λ r. r.name) b.recipes.items name
