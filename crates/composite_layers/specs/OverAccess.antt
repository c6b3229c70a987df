-- The parts of a recipe, got one after the other from the top down, and what a composition of them comes to, whoever commands the cache.
use Rattle.std.specs.Prelude.{ℕ, ◌≡◌, ◌⊎◌, List, [], ◌∷◌, ◌++◌, Option, Some, Result, Ok, Err, IfErr, IsSomeAnd, ⊤}
use Rattle.cabinet_chest.specs.declared.shown.Note.{Note}
use Rattle.cache_access.specs.declared.fault.GetFault.{GetFault}
use Rattle.cache_access.specs.declared.fault.GetFault.TheVariants as got
use Rattle.cache_access.specs.Gets.{Gets, IsNewerThanBook}
use Rattle.cache_access.specs.Sourced.{AreFromSource}
use Rattle.cache_core.specs.declared.outcome.Tile.{Tile}
use Rattle.catalog.specs.declared.catalogue.Catalogue.{Catalogue}
use Rattle.catalog.specs.LookUp.{IsTile, matrix_in}
use Rattle.base.specs.Causes.{Rose}
use Rattle.matrix_geometry.specs.declared.address.Address.{Address}
use Rattle.layer_recipes.specs.declared.composed.Composed.{Composed}
use Rattle.layer_recipes.specs.declared.composed.ComposeFault.{ComposeFault}
use Rattle.layer_recipes.specs.declared.composed.ComposeFault.TheVariants as fault
use Rattle.layer_recipes.specs.declared.place.TilePlace.{TilePlace}
use Rattle.layer_recipes.specs.declared.recipe.Part.{Part}
use Rattle.layer_recipes.specs.Composite.{composite, laid_over}
use Rattle.layer_recipes.specs.OfCatalogue.{tile_at}
use Rattle.layer_recipes.specs.Overlaid.{Lays, OverlaySheet}
use Rattle.raster_field.specs.declared.colour.Colour.{Colour}
use Rattle.source_render.specs.Renders.{GivenImage, GoesOn, Renders}
use Rattle.truncation_list.specs.declared.book.FrontedBook.{FrontedBook}
use Rattle.turnstile.specs.declared.view.Made.{Made}
use Rattle.composite_layers.specs.Parts.{keyed, numbers_of}

-- each number is above that of each truncation that covers its part's tile and for which the book answers
abbrev pub AreNewer : Catalogue → TilePlace → FrontedBook → List Part → List Tile → Type 0
AreNewer c place seen [] tiles = ⊤
AreNewer c place seen (p ∷ ps) [] = ⊤
AreNewer c place seen (p ∷ ps) (tile ∷ tiles) = IsNewerThanBook c (tile_at place p) tile.number seen × AreNewer c place seen ps tiles

-- which fault of the whole a fault of a part is
abbrev pub fault_of : GetFault → ComposeFault
fault_of got.SourceFault = fault.SourceFault
fault_of got.Spent = fault.Spent
fault_of got.OutOfMemory = fault.OutOfMemory

-- by what is commanded, and what a get of a tile does to it and comes to
module _ {C : Type 0} (gets : Address → C → C → Result Tile GetFault → Type 0) where
  -- The parts were got one after the other, the first one first, each with this tile: each by a get of its own, from where the part before
  -- it left the cache.
  abbrev pub AreGot : TilePlace → C → List Part → List Tile → C → Type 0
  AreGot place before [] [] after = after ≡ before
  AreGot place before [] (tile ∷ tiles) after = ⊥
  AreGot place before (p ∷ ps) [] after = ⊥
  AreGot place before (p ∷ ps) (tile ∷ tiles) after = (mid : C) × gets (tile_at place p) before mid (Ok tile) × AreGot place mid ps tiles after

  -- All parts were got, and the numbers are those of their tiles. The text is that of the tiles laid over each other; if the cache is sound, it
  -- is the composite of the pictures of these numbers. Each number is above every truncation that covers its part and for which the book
  -- that was seen at the call answers.
  pub record HasComposed (c : Catalogue) (Sound : Type 0) (seen : FrontedBook) (place : TilePlace) (before : C) (parts : List Part) (numbers bytes : List ℕ) (after : C) : Type 0 where
    pub tiles : List Tile
    pub got : AreGot place before parts tiles after
    pub numbered : numbers ≡ numbers_of tiles
    pub laid : IsSomeAnd (matrix_in c place.grid place.z) (λ x. bytes ≡ laid_over x (keyed parts tiles))
    pub truth : Sound → bytes ≡ composite c place parts numbers
    pub newer : AreNewer c place seen parts tiles

  -- the get of the part had this fault, or the part was got and memory ran out behind it
  abbrev pub Stops : TilePlace → C → Part → ComposeFault → C → Type 0
  Stops place before part stop after =
      ((e : GetFault) × gets (tile_at place part) before after (Err e) × (fault_of e ≡ stop))
      ⊎ ((tile : Tile) × gets (tile_at place part) before after (Ok tile) × (stop ≡ fault.OutOfMemory))

  -- some parts from the top down were got, and the next one stopped it: none behind it was asked for
  pub record HasStopped (place : TilePlace) (before : C) (parts : List Part) (stop : ComposeFault) (after : C) : Type 0 where
    pub above : List Part
    pub part : Part
    pub below : List Part
    pub all : parts ≡ above ++ part ∷ below
    pub tiles : List Tile
    pub mid : C
    pub got : AreGot place before above tiles mid
    pub stops : Stops place mid part stop after

  -- if memory ran out, no part at all may have been asked for
  abbrev pub CameTo : Catalogue → Type 0 → FrontedBook → TilePlace → C → List Part → Result Composed ComposeFault → C → Type 0
  CameTo c Sound seen place before parts (Ok composed) after = HasComposed c Sound seen place before parts composed.numbers.items composed.bytes.items after
  CameTo c Sound seen place before parts (Err stop) after = HasStopped place before parts stop after ⊎ ((stop ≡ fault.OutOfMemory) × (after ≡ before))

  -- A TIE between the code and these definitions: the promise can be read without it.

  -- one more part was got, and its tile laid under those before it
  pub record IsLaid (place : TilePlace) (before : C) (part : Part) (sheet sheet' : OverlaySheet) (numbers numbers' : List ℕ) (after : C) : Type 0 where
    pub tile : Tile
    pub got : gets (tile_at place part) before after (Ok tile)
    pub matrix : sheet'.matrix ≡ sheet.matrix
    pub lays : (parts : List (Colour × List ℕ)) → Lays sheet parts → Lays sheet' (parts ++ (part.key, tile.bytes) ∷ [])
    pub numbered : numbers' ≡ numbers ++ tile.number ∷ []

  -- the parts so far were got and laid
  pub record AreLaidSoFar (place : TilePlace) (before : C) (parts : List Part) (sheet sheet' : OverlaySheet) (numbers : List ℕ) (after : C) : Type 0 where
    pub tiles : List Tile
    pub got : AreGot place before parts tiles after
    pub matrix : sheet'.matrix ≡ sheet.matrix
    pub lays : Lays sheet' (keyed parts tiles)
    pub numbered : numbers ≡ numbers_of tiles

-- THE WHOLE: all the turns that a composition made, and what it came to; what they handed in is cut out of what the source has given
module _ {C : Type 0} (leads : C → C → List (Made Note) → Type 0) (gets : Address → C → C → Result Tile GetFault → Type 0) where
  pub record Composes (c : Catalogue) (gave : List GivenImage) (Sound : Type 0) (seen : FrontedBook) (place : TilePlace) (before : C) (parts : List Part) (result : Result Composed ComposeFault) (after : C) : Type 0 where
    pub gained : List (Made Note)
    pub gains : leads before after gained
    pub from_source : AreFromSource c gave gained
    pub came_to : CameTo gets c Sound seen place before parts result after

-- OVER ANY ACCESS

-- what is commanded, and what the source has done
pub record MomentOf (C : Type 0) : Type 0 where
  pub cache : C
  pub renders : Renders

abbrev pub moment_of : {C : Type 0} → C → Renders → MomentOf C
moment_of cache so_far = record { cache = cache; renders = so_far }

-- by which turns lead from one to another, what makes a cache sound, and which book was seen last; and by what the source tells, and the
-- catalogue
module _ {C : Type 0} (leads : C → C → List (Made Note) → Type 0) (sound : C → Type 0) (seen : C → FrontedBook) (told : Option ℕ) (c : Catalogue) where
  -- A get of a tile of the catalogue, while the source went on: it failed only if its count rose, and what was handed in is cut out of what it
  -- has given. If the source is the catalogue's, a sound cache stays so.
  pub record GetsAt (a : Address) (before after : MomentOf C) (result : Result Tile GetFault) : Type 0 where
    pub tile : IsTile c a
    pub gets : Gets leads c after.renders.gave (sound before.cache × (told ≡ Some c.source)) a (seen before.cache) before.cache after.cache result
    pub still : told ≡ Some c.source → sound before.cache → sound after.cache
    pub goes_on : GoesOn before.renders after.renders
    pub cause : IfErr result (λ e. e ≡ got.SourceFault → Rose before.renders.failures after.renders.failures)

  -- a composition whose parts are got so
  abbrev pub ComposesAt : TilePlace → MomentOf C → List Part → Result Composed ComposeFault → MomentOf C → Type 0
  ComposesAt place before parts result after =
      Composes (λ x y. leads x.cache y.cache) GetsAt c after.renders.gave (sound before.cache × (told ≡ Some c.source)) (seen before.cache) place before parts result after
