-- Which actors fit a catalogue and a request, and when what they hold is true.
use Rattle.std.specs.Prelude.{ℕ, ◌≡◌, false, List, ◌++◌, length, Option, Some, None, ⊤}
use Rattle.catalog.specs.declared.catalogue.Catalogue.{Catalogue}
use Rattle.catalog.specs.LookUp.{IsTile}
use Rattle.cabinet.specs.Fresh.{IsFresh}
use Rattle.cabinet.specs.History.{History}
use Rattle.matrix_geometry.specs.declared.address.Address.{Address}
use Rattle.metatile_locks.specs.Tickets.{Ticketed}
use Rattle.raster_field.specs.Blocks.{block_of, blob_size, block_text, tile_part}
use Rattle.raster_field.specs.TileText.{tile_text}
use Rattle.cache_core.specs.declared.actor.Actor.{Actor}
use Rattle.cache_core.specs.declared.actor.Actor.TheVariants.{Idle, Waiting, Holding, Rendered, Failed}
use Rattle.cache_core.specs.declared.outcome.TileOutcome.{TileOutcome}
use Rattle.cache_core.specs.declared.outcome.TileOutcome.TheVariants as outcome
use Rattle.cache_core.specs.declared.outcome.Tile.{Tile}

-- the ticket is for the metatile of the tile
abbrev pub IsTicketFor : Catalogue → Address → Ticketed → Type 0
IsTicketFor c a t = t.meta ≡ block_of c a

-- the blob is of the metatile's length, and the tile is its part of it under the ticket's number
pub record IsBlobFor (c : Catalogue) (a : Address) (t : Ticketed) (blob : List ℕ) (tile : Tile) : Type 0 where
  pub ticket : IsTicketFor c a t
  pub size : length blob ≡ blob_size c t.meta
  pub miss : tile.hit ≡ false
  pub number : tile.number ≡ t.number
  pub part : tile.bytes ≡ tile_part c a blob

-- the actor makes a request for the tile of the catalogue
abbrev pub IsAtWork : Catalogue → Address → Actor → Type 0
IsAtWork c a Idle = ⊤
IsAtWork c a (Waiting b force) = b ≡ a
IsAtWork c a (Holding t b) = (b ≡ a) × IsTicketFor c a t
IsAtWork c a (Rendered t blob tile) = IsBlobFor c a t blob tile
IsAtWork c a (Failed t) = IsTicketFor c a t

pub record IsFit (c : Catalogue) (a : Address) (actor : Actor) : Type 0 where
  pub tile : IsTile c a
  pub work : IsAtWork c a actor

-- the blob that the actor holds is that of the picture of its number
abbrev pub IsTrueActor : Catalogue → Actor → Type 0
IsTrueActor c Idle = ⊤
IsTrueActor c (Waiting a force) = ⊤
IsTrueActor c (Holding t a) = ⊤
IsTrueActor c (Rendered t blob tile) = blob ≡ block_text c t.number t.meta
IsTrueActor c (Failed t) = ⊤

-- the bytes are the encoded tile of its number
abbrev pub IsTrueOutcome : Catalogue → Address → Option TileOutcome → Type 0
IsTrueOutcome c a None = ⊤
IsTrueOutcome c a (Some (outcome.Tile tile)) = tile.bytes ≡ tile_text c tile.number a
IsTrueOutcome c a (Some outcome.SourceFailed) = ⊤
IsTrueOutcome c a (Some outcome.Spent) = ⊤
IsTrueOutcome c a (Some outcome.NoMemory) = ⊤

-- the number that the actor holds is that of a fresh render of the tile, at an ask when the history had p entries
abbrev pub IsFreshActor : Catalogue → History → ℕ → Address → Actor → Type 0
IsFreshActor c h p a Idle = ⊤
IsFreshActor c h p a (Waiting b force) = ⊤
IsFreshActor c h p a (Holding t b) = IsFresh c h p a t.number
IsFreshActor c h p a (Rendered t blob tile) = IsFresh c h p a tile.number
IsFreshActor c h p a (Failed t) = ⊤

abbrev pub IsFreshOutcome : Catalogue → History → ℕ → Address → Option TileOutcome → Type 0
IsFreshOutcome c h p a None = ⊤
IsFreshOutcome c h p a (Some (outcome.Tile tile)) = IsFresh c h p a tile.number
IsFreshOutcome c h p a (Some outcome.SourceFailed) = ⊤
IsFreshOutcome c h p a (Some outcome.Spent) = ⊤
IsFreshOutcome c h p a (Some outcome.NoMemory) = ⊤

-- HISTORIES GO ON

abbrev pub ExtendsHistory : History → History → Type 0
ExtendsHistory h g = (more : History) × (g ≡ h ++ more)

-- the place of a request after an event: that of its last ask or force
abbrev pub place_of : Actor → ℕ → ℕ → ℕ
place_of Idle here place = place
place_of (Waiting a force) here place = here
place_of (Holding t a) here place = place
place_of (Rendered t blob tile) here place = place
place_of (Failed t) here place = place
