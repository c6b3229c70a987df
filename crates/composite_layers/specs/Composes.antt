-- What a composition comes to.
use Rattle.std.specs.Prelude.{ℕ, ◌≡◌, ◌⊎◌, List, ◌∷◌, ◌++◌, Option, Some, None, Result, Ok, Err, IsSomeAnd}
use Rattle.cabinet.specs.State.{IsSound}
use Rattle.cache_core.specs.declared.outcome.Tile.{Tile}
use Rattle.cache_core.specs.declared.outcome.TileOutcome.{TileOutcome}
use Rattle.cache_core.specs.declared.outcome.TileOutcome.TheVariants as core
use Rattle.catalog.specs.LookUp.{matrix_in}
use Rattle.tile_service.specs.Session.{IsAtRest}
use Rattle.layer_recipes.specs.declared.composed.Composed.{Composed}
use Rattle.layer_recipes.specs.declared.composed.ComposeFault.{ComposeFault}
use Rattle.layer_recipes.specs.declared.composed.ComposeFault.TheVariants as fault
use Rattle.layer_recipes.specs.declared.place.TilePlace.{TilePlace}
use Rattle.layer_recipes.specs.declared.recipe.Part.{Part}
use Rattle.layer_recipes.specs.Composite.{composite, laid_over}
use Rattle.layer_recipes.specs.OfCatalogue.{tile_at}
use Rattle.composite_layers.specs.Parts.{AreGot, CompositionMoment, IsPartGot, keyed, numbers_of}

-- which fault of the whole an outcome of a part is
abbrev pub fault_of : TileOutcome → Option ComposeFault
fault_of (core.Tile tile) = None
fault_of core.SourceFailed = Some fault.SourceFault
fault_of core.Spent = Some fault.Spent
fault_of core.NoMemory = Some fault.OutOfMemory

-- ALL PARTS

-- All parts were got one after the other, from the top down, and the numbers are those of their tiles. The text is that of the tiles laid over
-- each other; where the source tells what it renders, and all that was kept at the start is told, it is the composite of the pictures
-- of these numbers.
pub record HasComposed (told : Option ℕ) (place : TilePlace) (m : CompositionMoment) (parts : List Part) (numbers bytes : List ℕ) (n : CompositionMoment) : Type 0 where
  pub tiles : List Tile
  pub got : AreGot told place m parts tiles n
  pub numbered : numbers ≡ numbers_of tiles
  pub laid : IsSomeAnd (matrix_in m.cabinet.catalogue place.grid place.z) (λ x. bytes ≡ laid_over x (keyed parts tiles))
  pub truth : told ≡ Some m.cabinet.catalogue.source → IsSound m.cabinet → bytes ≡ composite m.cabinet.catalogue place parts numbers
  pub rests : IsAtRest n.cabinet

-- A FAULT

-- the part had this outcome, which is the fault, or it was got and memory ran out behind it
abbrev pub Stops : Option ℕ → TilePlace → CompositionMoment → Part → ComposeFault → CompositionMoment → Type 0
Stops told place m part stop n =
    ((ended : TileOutcome) × IsPartGot told m (tile_at place part) ended n × (fault_of ended ≡ Some stop))
    ⊎ ((tile : Tile) × IsPartGot told m (tile_at place part) (core.Tile tile) n × (stop ≡ fault.OutOfMemory))

-- Some parts from the top down were got, and the next one stopped it: none behind it was asked for. Where memory ran out, no part at
-- all may have been asked for.
pub record HasStopped (told : Option ℕ) (place : TilePlace) (m : CompositionMoment) (parts : List Part) (stop : ComposeFault) (n : CompositionMoment) : Type 0 where
  pub above : List Part
  pub part : Part
  pub below : List Part
  pub all : parts ≡ above ++ part ∷ below
  pub tiles : List Tile
  pub mid : CompositionMoment
  pub got : AreGot told place m above tiles mid
  pub stops : Stops told place mid part stop n

-- THE WHOLE

abbrev pub Composes : Option ℕ → TilePlace → CompositionMoment → List Part → Result Composed ComposeFault → CompositionMoment → Type 0
Composes told place m parts (Ok composed) n = HasComposed told place m parts composed.numbers.items composed.bytes.items n
Composes told place m parts (Err stop) n = HasStopped told place m parts stop n ⊎ ((stop ≡ fault.OutOfMemory) × (n ≡ m))
