-- The parts of a recipe, got one after the other from the top down.
use Rattle.std.specs.Prelude.{ℕ, ◌≡◌, ◌≤◌, List, [], ◌∷◌, length, Option, Some}
use Rattle.cabinet.specs.State.{State, IsSound}
use Rattle.cache_core.specs.declared.outcome.Tile.{Tile}
use Rattle.cache_core.specs.declared.outcome.TileOutcome.{TileOutcome}
use Rattle.cache_core.specs.declared.outcome.TileOutcome.TheVariants as core
use Rattle.cache_core.specs.Fits.{ExtendsHistory, IsFreshOutcome, IsTrueOutcome}
use Rattle.cache_core.specs.Steps.{ends}
use Rattle.base.specs.Causes.{Rose, RoseBy}
use Rattle.matrix_geometry.specs.declared.address.Address.{Address}
use Rattle.raster_field.specs.declared.colour.Colour.{Colour}
use Rattle.tile_requests.specs.declared.request.Mode.TheVariants.{Gets}
use Rattle.tile_requests.specs.Requests.{Chance, disk_faults_in, events}
use Rattle.tile_service.specs.Session.{IsAtRest}
use Rattle.layer_recipes.specs.declared.place.TilePlace.{TilePlace}
use Rattle.layer_recipes.specs.declared.recipe.Part.{Part}
use Rattle.layer_recipes.specs.OfCatalogue.{tile_at}

-- the cabinet, and how often the source and the cabinet's disk have failed
pub record CompositionMoment : Type 0 where
  pub cabinet : State
  pub renders : ℕ
  pub disk : ℕ

abbrev pub moment : State → ℕ → ℕ → CompositionMoment
moment s renders disk = record { cabinet = s; renders = renders; disk = disk }

abbrev pub place_of : ℕ → ℕ → ℕ → ℕ → TilePlace
place_of grid z row col = record { grid = grid; z = z; row = row; col = col }

-- ONE PART

-- From the moment m to the moment n a tile was got, with this outcome: asked for, rendered and finished, under some chance. The source
-- failed only where its count of faults rose, and the chance names no more faults of the disk than its count rose by. The number of a
-- tile is fresh at the place of this ask, which is the length of the history at m. Where the source tells what it renders, and all that
-- is kept is told, the bytes are the tile in the picture of its number.
pub record IsPartGot (told : Option ℕ) (m : CompositionMoment) (a : Address) (ended : TileOutcome) (n : CompositionMoment) : Type 0 where
  pub chance : Chance
  pub made : events Gets m.cabinet a chance ≡ ends n.cabinet ended
  pub failed : ended ≡ core.SourceFailed → Rose m.renders n.renders
  pub later : m.renders ≤ n.renders
  pub disk : RoseBy (disk_faults_in chance) m.disk n.disk
  pub fresh : IsFreshOutcome m.cabinet.catalogue n.cabinet.history (length m.cabinet.history) a (Some ended)
  pub truth : told ≡ Some m.cabinet.catalogue.source → IsSound m.cabinet → IsTrueOutcome m.cabinet.catalogue a (Some ended)
  pub sound : told ≡ Some m.cabinet.catalogue.source → IsSound m.cabinet → IsSound n.cabinet
  pub grows : ExtendsHistory m.cabinet.history n.cabinet.history
  pub catalogue : n.cabinet.catalogue ≡ m.cabinet.catalogue
  pub rests : IsAtRest n.cabinet

-- SEVERAL PARTS

-- the parts were got one after the other, the first one first, each with this tile: each from the moment that the one before it left
abbrev pub AreGot : Option ℕ → TilePlace → CompositionMoment → List Part → List Tile → CompositionMoment → Type 0
AreGot told place m [] [] n = n ≡ m
AreGot told place m [] (tile ∷ tiles) n = ⊥
AreGot told place m (p ∷ ps) [] n = ⊥
AreGot told place m (p ∷ ps) (tile ∷ tiles) n = (mid : CompositionMoment) × IsPartGot told m (tile_at place p) (core.Tile tile) mid × AreGot told place mid ps tiles n

-- the texts of the tiles, with the keys of their parts
abbrev pub keyed : List Part → List Tile → List (Colour × List ℕ)
keyed [] tiles = []
keyed (p ∷ ps) [] = []
keyed (p ∷ ps) (tile ∷ tiles) = (p.key, tile.bytes) ∷ keyed ps tiles

abbrev pub numbers_of : List Tile → List ℕ
numbers_of [] = []
numbers_of (tile ∷ tiles) = tile.number ∷ numbers_of tiles
