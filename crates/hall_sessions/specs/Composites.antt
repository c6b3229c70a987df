-- What a message for a composite comes to over a hall: the turns of a composition, and the outcome that they are answered by.
use Rattle.std.specs.Prelude.{ℕ, ◌≡◌, Bool, List, [], Option, Some, option_map, slice_get, Result, Ok, Err}
use Rattle.base.specs.Causes.{Rose}
use Rattle.cabinet_chest.specs.declared.shown.Note.{Note}
use Rattle.cache_access.specs.Sourced.{AreFromSource}
use Rattle.cache_hall.specs.Turned.{GainsTurns, HallPass}
use Rattle.catalog.specs.declared.catalogue.Catalogue.{Catalogue}
use Rattle.composite_hall.specs.OverHall.{ComposesOver}
use Rattle.composite_requests.specs.declared.request.CompositeRequest.{CompositeRequest}
use Rattle.composite_requests.specs.declared.request.CompositeRequest.TheVariants as request
use Rattle.layer_recipes.specs.declared.book.RecipeBook.{RecipeBook}
use Rattle.layer_recipes.specs.declared.composed.Composed.{Composed}
use Rattle.layer_recipes.specs.declared.composed.ComposeFault.{ComposeFault}
use Rattle.layer_recipes.specs.declared.composed.ComposeFault.TheVariants as fault
use Rattle.layer_recipes.specs.declared.place.TilePlace.{TilePlace}
use Rattle.layer_recipes.specs.declared.recipe.Part.{Part}
use Rattle.source_render.specs.Renders.{GivenImage, Renders}
use Rattle.truncation_list.specs.declared.book.FrontedBook.{FrontedBook}
use Rattle.turnstile.specs.declared.view.Made.{Made}
use Rattle.tile_requests.specs.declared.outcome.Outcome.{Outcome}
use Rattle.tile_requests.specs.declared.outcome.Outcome.TheVariants as outcome
use Rattle.tile_requests.specs.declared.outcome.Plain.TheVariants as plain

-- the outcome of a composition: the numbers and the text that it came to, or its fault
abbrev pub outcome_of_composition : Result Composed ComposeFault → Outcome
outcome_of_composition (Ok composed) = outcome.Composite (record { items = composed.numbers.items }) composed.bytes.items
outcome_of_composition (Err fault.SourceFault) = outcome.SourceFailed
outcome_of_composition (Err fault.Spent) = outcome.Plain plain.Spent
outcome_of_composition (Err fault.OutOfMemory) = outcome.Plain plain.NoMemory

-- the parts of the recipe of a number, none if there is no such recipe
abbrev pub parts_at : RecipeBook → ℕ → Option (List Part)
parts_at recipes number = option_map (λ n. n.recipe.parts.items) (slice_get recipes.recipes.items number)

-- These turns are those of a composition of the recipe of a number at a place, which came to this: by a pass that was told whether the cabinet is
-- sound, and that had seen this book. It made these turns and no others. What they handed in is cut out of the images that the source gave.
pub record IsComposed (c : Catalogue) (gave : List GivenImage) (recipes : RecipeBook) (told : Bool) (seen : FrontedBook) (number : ℕ) (place : TilePlace) (gained : List (Made Note)) (result : Result Composed ComposeFault) : Type 0 where
  pub parts : List Part
  pub of_recipe : parts_at recipes number ≡ Some parts
  pub before : HallPass
  pub told_so : before.told ≡ told
  pub had_seen : before.book ≡ seen
  pub after : HallPass
  pub composes : ComposesOver c gave place before parts result after
  pub all : gained ≡ composes.gained

-- WHAT IS ASKED FOR BELOW /composites/, by a pass that had seen this book: the turns that it made, and the outcome
abbrev pub IsCompositeServed : Catalogue → List GivenImage → RecipeBook → Bool → FrontedBook → CompositeRequest → List (Made Note) → Outcome → Type 0
IsCompositeServed c gave recipes told seen (request.Composite number place) gained o =
    (result : Result Composed ComposeFault) × IsComposed c gave recipes told seen number place gained result × (o ≡ outcome_of_composition result)
IsCompositeServed c gave recipes told seen (request.Refused code locator) gained o = (gained ≡ []) × (o ≡ outcome.Refused code locator)
IsCompositeServed c gave recipes told seen request.NotFound gained o = (gained ≡ []) × (o ≡ outcome.Plain plain.NotFound)
IsCompositeServed c gave recipes told seen request.WrongMethod gained o = (gained ≡ []) × (o ≡ outcome.Plain plain.WrongMethod)

-- TIES between the code and these definitions: the promise can be read without them.

-- the parts were composed by a pass, and answered so, while the source went from what it had done to this: it failed only if its count rose
pub record ServesComposition (c : Catalogue) (place : TilePlace) (parts : List Part) (renders_before renders_after : Renders) (before after : HallPass) (o : Outcome) : Type 0 where
  pub result : Result Composed ComposeFault
  pub composes : ComposesOver c renders_after.gave place before parts result after
  pub answered : o ≡ outcome_of_composition result
  pub cause : o ≡ outcome.SourceFailed → Rose renders_before.failures renders_after.failures

-- the same of what is asked for below /composites/, and each blob that was handed in is cut out of what the source has given
pub record ServesComposite (c : Catalogue) (recipes : RecipeBook) (renders_before renders_after : Renders) (r : CompositeRequest) (before after : HallPass) (o : Outcome) : Type 0 where
  pub gained : List (Made Note)
  pub gains : GainsTurns c before after gained
  pub served : IsCompositeServed c renders_after.gave recipes before.told before.book r gained o
  pub from_source : AreFromSource c renders_after.gave gained
  pub cause : o ≡ outcome.SourceFailed → Rose renders_before.failures renders_after.failures
