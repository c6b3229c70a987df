-- What getting a tile of a follower comes to.
use Rattle.std.specs.Prelude.{◌≡◌, ◌⊎◌, ℕ, true, false, List, [], ◌∷◌, length, Option, Some, Result, Ok, Err}
use Rattle.std.specs.declared.alloc.AllocError.{AllocError}
use Rattle.cabinet.specs.declared.replies.Asked.{Asked}
use Rattle.cabinet.specs.declared.replies.Asked.TheVariants as asked
use Rattle.cabinet.specs.declared.replies.Finished.{Finished}
use Rattle.cabinet.specs.Commands.{Abandons, Asks, Finishes, IsCountedFinished}
use Rattle.cabinet.specs.Endings.{IsKeptUnlessFailed}
use Rattle.cabinet.specs.Fresh.{IsFresh}
use Rattle.cabinet.specs.State.{IsSound, State}
use Rattle.cache_core.specs.declared.outcome.Tile.{Tile}
use Rattle.base.specs.Causes.{Rose}
use Rattle.cut_follower.specs.InStep.{tile_number}
use Rattle.cut_follower.specs.Lossy as lossy
use Rattle.matrix_geometry.specs.declared.address.Address.{Address}
use Rattle.metatile_locks.specs.Tickets.{Ticketed}
use Rattle.raster_field.specs.Blocks.{blob_size, tile_part}
use Rattle.raster_field.specs.TileText.{tile_text}
use Rattle.twin_events.specs.declared.got.Got.{Got}
use Rattle.twin_events.specs.declared.got.Got.TheVariants as got
use Rattle.twin_events.specs.Twins.{LeadsBy, TwinStanding}

-- how often the source has failed, and the disk of the cabinet
pub record Failures : Type 0 where
  pub source : ℕ
  pub cabinet : ℕ

abbrev pub failures : ℕ → ℕ → Failures
failures source cabinet = record { source = source; cabinet = cabinet }

-- THE EVENTS: an ask, and where a render is given for it, the command that ends the render
abbrev pub events_of : Address → Asked → List lossy.LinkEvent
events_of a (asked.Hit k bytes) = lossy.asked a (asked.Hit k bytes) ∷ []
events_of a (asked.Busy k) = lossy.asked a (asked.Busy k) ∷ []
events_of a asked.Spent = lossy.asked a asked.Spent ∷ []
events_of a (asked.Ticket t) = lossy.asked a (asked.Ticket t) ∷ (lossy.commanded ∷ [])

-- IN THE CABINET

-- A render was finished, with the blob of its metatile, of which the tile is the part. It was kept unless a truncation overtook it, there
-- was no room, or the disk failed.
pub record IsTileRendered (mid : State) (between : ℕ) (a : Address) (ticket : Ticketed) (tile : Tile) (t : State) (after : ℕ) : Type 0 where
  pub miss : tile.hit ≡ false
  pub blob : List ℕ
  pub long : length blob ≡ blob_size mid.catalogue ticket.meta
  pub part : tile.bytes ≡ tile_part mid.catalogue a blob
  pub ended : Finished
  pub row : Finishes mid ticket blob ended t
  pub counted : IsCountedFinished between after ended
  pub kept : IsKeptUnlessFailed between after mid ticket blob ended

-- the reply gave the tile: what is kept, or a render
abbrev pub Gives : State → ℕ → Address → Asked → Tile → State → ℕ → Type 0
Gives mid between a (asked.Hit k bytes) tile t after = (tile ≡ record { hit = true; number = k; bytes = bytes }) × (t ≡ mid) × (after ≡ between)
Gives mid between a (asked.Busy k) tile t after = ⊥
Gives mid between a asked.Spent tile t after = ⊥
Gives mid between a (asked.Ticket ticket) tile t after = IsTileRendered mid between a ticket tile t after

-- The tile was asked for, and this reply gave it. Its number is fresh at this ask. Where the source tells what it renders, and all that is
-- kept is told, its bytes are the tile in the picture of its number.
pub record IsTileAnswered (told : Option ℕ) (s : State) (before : Failures) (a : Address) (reply : Asked) (tile : Tile) (t : State) (after : Failures) : Type 0 where
  pub numbered : tile_number reply ≡ Some tile.number
  pub mid : State
  pub between : ℕ
  pub row : Asks before.cabinet between s a reply mid
  pub gives : Gives mid between a reply tile t after.cabinet
  pub fresh : IsFresh s.catalogue t.history (length s.history) a tile.number
  pub truth : told ≡ Some s.catalogue.source → IsSound s → tile.bytes ≡ tile_text s.catalogue tile.number a

-- a render was given for the tile under this ticket, and given back
pub record IsGivenBack (s : State) (before : Failures) (a : Address) (ticket : Ticketed) (t : State) (after : Failures) : Type 0 where
  pub mid : State
  pub row : Asks before.cabinet after.cabinet s a (asked.Ticket ticket) mid
  pub abandons : Abandons mid ticket t

-- THE ROWS

pub record IsTileGot (told : Option ℕ) (s : TwinStanding) (before : Failures) (a : Address) (tile : Tile) (t : TwinStanding) (after : Failures) : Type 0 where
  pub reply : Asked
  pub answered : IsTileAnswered told s.cabinet before a reply tile t.cabinet after
  pub leads : LeadsBy (events_of a reply) s t

pub record IsMissed (s : TwinStanding) (before : Failures) (a : Address) (t : TwinStanding) (after : Failures) : Type 0 where
  pub ticket : Ticketed
  pub given_back : IsGivenBack s.cabinet before a ticket t.cabinet after
  pub leads : LeadsBy (events_of a (asked.Ticket ticket)) s t

abbrev pub Gets : Option ℕ → TwinStanding → Failures → Address → Got → TwinStanding → Failures → Type 0
Gets told s before a (got.Tile tile) t after = IsTileGot told s before a tile t after
Gets told s before a got.SourceFault t after = IsMissed s before a t after × Rose before.source after.source
Gets told s before a got.Spent t after = Asks before.cabinet after.cabinet s.cabinet a asked.Spent t.cabinet × LeadsBy (events_of a asked.Spent) s t

-- where memory ran out: nothing changed, or a render was given for the tile, and given back
abbrev pub RunsOut : TwinStanding → Failures → Address → TwinStanding → Failures → Type 0
RunsOut s before a t after = (t ≡ s) ⊎ IsMissed s before a t after

-- A TIE between the code and these definitions: the promise can be read without it.

-- what the end of a render came to
abbrev pub EndsRender : Option ℕ → State → Failures → Address → Ticketed → Result Got AllocError → State → Failures → Type 0
EndsRender told mid between a ticket (Ok (got.Tile tile)) t after =
    IsTileRendered mid between.cabinet a ticket tile t after.cabinet × (tile.number ≡ ticket.number) × (told ≡ Some mid.catalogue.source → tile.bytes ≡ tile_text mid.catalogue tile.number a)
EndsRender told mid between a ticket (Ok got.SourceFault) t after = Abandons mid ticket t × (after.cabinet ≡ between.cabinet) × Rose between.source after.source
EndsRender told mid between a ticket (Ok got.Spent) t after = ⊥
EndsRender told mid between a ticket (Err fault) t after = Abandons mid ticket t × (after.cabinet ≡ between.cabinet)

-- what getting a tile came to in the cabinet
abbrev pub GetsIn : Option ℕ → State → Failures → Address → Result Got AllocError → State → Failures → Type 0
GetsIn told s before a (Ok (got.Tile tile)) t after = (reply : Asked) × IsTileAnswered told s before a reply tile t after
GetsIn told s before a (Ok got.SourceFault) t after = ((ticket : Ticketed) × IsGivenBack s before a ticket t after) × Rose before.source after.source
GetsIn told s before a (Ok got.Spent) t after = Asks before.cabinet after.cabinet s a asked.Spent t
GetsIn told s before a (Err fault) t after = (t ≡ s) ⊎ ((ticket : Ticketed) × IsGivenBack s before a ticket t after)
