-- The parts of a recipe, got over a hall one after the other from the top down, and what a composition of them comes to: that of a
-- composition over any access, by a pass.
use Rattle.std.specs.Prelude.{◌≡◌, true, List, Result}
use Rattle.cache_hall.specs.Gets.{Gets}
use Rattle.cache_hall.specs.Turned.{GainsTurns, HallPass}
use Rattle.catalog.specs.declared.catalogue.Catalogue.{Catalogue}
use Rattle.layer_recipes.specs.declared.composed.Composed.{Composed}
use Rattle.layer_recipes.specs.declared.composed.ComposeFault.{ComposeFault}
use Rattle.layer_recipes.specs.declared.place.TilePlace.{TilePlace}
use Rattle.layer_recipes.specs.declared.recipe.Part.{Part}
use Rattle.source_render.specs.Renders.{GivenImage}
use Rattle.composite_layers.specs.OverAccess.{Composes}

-- What a composition did to its pass: all the turns that it made, and what it came to. Each part is got by the turns of one get of the pass,
-- as the part before it left it; between the turns other passes have theirs. The text is the composite of the pictures of the numbers, if
-- the pass tells a sound cabinet. What the turns handed in is cut out of the images that the source has given.
abbrev pub ComposesOver : Catalogue → List GivenImage → TilePlace → HallPass → List Part → Result Composed ComposeFault → HallPass → Type 0
ComposesOver c gave place before parts result after = Composes (GainsTurns c) (Gets c gave) c gave (before.told ≡ true) before.book place before parts result after
