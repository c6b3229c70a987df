-- A composition by a pass, as the answer to a message.
use Rattle.std.proofs.Common.{ℕ, suc, ◌≡◌, ◌≤◌, List, [], ◌∷◌, length, Option, Some, None, Result, Ok, Err, IfOk, option_map, slice_get, refl, ap, ◌∙◌, arith}
use Rattle.cache_core.specs.declared.outcome.Tile.{Tile}
use Rattle.cache_hall.specs.Turned.{HallPass}
use Rattle.cache_hall.specs.Gets.{Gets}
use Rattle.cache_hall.specs.Gained.{gains_none}
use Rattle.catalog.specs.declared.catalogue.Catalogue.{Catalogue}
use Rattle.composite_hall.specs.OverHall.{ComposesOver}
use Rattle.composite_layers.specs.OverAccess.{AreGot}
use Rattle.composite_layers.specs.Parts.{numbers_of}
use Rattle.composite_requests.specs.declared.request.CompositeRequest.{CompositeRequest}
use Rattle.composite_requests.specs.declared.request.CompositeRequest.TheVariants as request
use Rattle.layer_recipes.specs.declared.book.NamedRecipe.{NamedRecipe}
use Rattle.layer_recipes.specs.declared.book.RecipeBook.{RecipeBook}
use Rattle.layer_recipes.specs.declared.composed.Composed.{Composed}
use Rattle.layer_recipes.specs.declared.composed.ComposeFault.{ComposeFault}
use Rattle.layer_recipes.specs.declared.place.TilePlace.{TilePlace}
use Rattle.layer_recipes.specs.declared.recipe.Part.{Part}
use Rattle.layer_recipes.specs.declared.recipe.Recipe.{Recipe}
use Rattle.source_render.specs.Renders.{GivenImage, Renders}
use Rattle.tile_requests.specs.declared.outcome.Outcome.{Outcome}
use Rattle.tile_requests.specs.declared.outcome.Outcome.TheVariants as outcome
use Rattle.hall_sessions.specs.Composites.{IsCompositeServed, ServesComposite, ServesComposition}

-- NUMBERS

-- there are as many as parts
as_many : (c : Catalogue) (gave : List GivenImage) (place : TilePlace) (before : HallPass) (ps : List Part) (tiles : List Tile) (after : HallPass) → AreGot (Gets c gave) place before ps tiles after → length (numbers_of tiles) ≡ length ps
as_many c gave place before [] [] after got = refl
as_many c gave place before [] (t ∷ ts) after got = absurd got
as_many c gave place before (p ∷ ps) [] after got = absurd got
as_many c gave place before (p ∷ ps) (t ∷ ts) after got = ap suc (as_many c gave place got.0 ps ts after got.2)

pub few_numbers : (c : Catalogue) (gave : List GivenImage) (place : TilePlace) (before : HallPass) (ps : List Part) (result : Result Composed ComposeFault) (after : HallPass) → length ps ≤ 8 → ComposesOver c gave place before ps result after → IfOk result (λ composed. length composed.numbers.items ≤ 8)
few_numbers c gave place before ps (Ok composed) after few h =
    let count : length composed.numbers.items ≡ length ps = ap length h.came_to.numbered ∙ as_many c gave place before ps h.came_to.tiles after h.came_to.got in omega (arith, count, few)
few_numbers c gave place before ps (Err stop) after few h = tt

-- RECIPES

module _ (c : Catalogue) (recipes : RecipeBook) (number : ℕ) (recipe : Recipe) where
  parts_of : (n : Option NamedRecipe) → option_map (λ n. n.recipe) n ≡ Some recipe → option_map (λ n. n.recipe.parts.items) n ≡ Some recipe.parts.items
  parts_of None is = absurd (cc)
  parts_of (Some n) is = let same : n.recipe ≡ recipe = cc in ap (λ (r : Recipe). Some r.parts.items) same

  -- its composition is what is asked for
  pub composition_served : (place : TilePlace) (renders_before renders_after : Renders) (before after : HallPass) (o : Outcome) → option_map (λ n. n.recipe) (slice_get recipes.recipes.items number) ≡ Some recipe
      → ServesComposition c place recipe.parts.items renders_before renders_after before after o → ServesComposite c recipes renders_before renders_after (request.Composite number place) before after o
  composition_served place renders_before renders_after before after o is h =
      record {
        gained = h.composes.gained;
        gains = h.composes.gains;
        served = (
          h.result,
          record {
            parts = recipe.parts.items;
            of_recipe = parts_of (slice_get recipes.recipes.items number) is;
            before = before;
            told_so = refl;
            had_seen = refl;
            after = after;
            composes = h.composes;
            all = refl;
          },
          h.answered,
        );
        from_source = h.composes.from_source;
        cause = h.cause;
      }

-- WITHOUT A TURN

-- what is answered by no turn, and isn't a fault of the source
pub served_at_once : (c : Catalogue) (recipes : RecipeBook) (renders_before renders_after : Renders) (r : CompositeRequest) (pass : HallPass) (o : Outcome) → IsCompositeServed c renders_after.gave recipes pass.told pass.book r [] o → (o ≡ outcome.SourceFailed → ⊥)
    → ServesComposite c recipes renders_before renders_after r pass pass o
served_at_once c recipes renders_before renders_after r pass o served other = record { gained = []; gains = gains_none c pass; served = served; from_source = tt; cause = λ failed. absurd (other failed) }
