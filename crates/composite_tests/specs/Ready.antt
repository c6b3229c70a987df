-- What a composite in a cabinet needs of it and of its recipe.
use Rattle.cabinet.specs.State.{State}
use Rattle.catalog.specs.Valid.{IsValid}
use Rattle.layer_recipes.specs.declared.recipe.Recipe.{Recipe}
use Rattle.layer_recipes.specs.OfCatalogue.{IsRecipeOf}
use Rattle.tile_service.specs.Session.{IsAtRest}

-- no render runs in the cabinet, whose catalogue is valid, and the recipe is one of its catalogue
pub record IsReady (s : State) (r : Recipe) : Type 0 where
  pub valid : IsValid s.catalogue
  pub recipe : IsRecipeOf s.catalogue r
  pub rests : IsAtRest s
