-- What a get does: it asks until no render of the metatile runs elsewhere, and then takes the kept tile, or renders it and hands it in.
use Rattle.std.specs.Prelude.{ℕ, ◌≡◌, ◌<◌, ◌⊎◌, true, false, IsTrue, List, [], ◌∷◌, ◌++◌, length, Result, Ok, Err}
use Rattle.cabinet.specs.declared.replies.Asked.TheVariants as asked
use Rattle.cabinet.specs.Fresh.{IsFresh}
use Rattle.cabinet.specs.Hits.{covers_in}
use Rattle.cabinet_chest.specs.declared.command.Command.TheVariants as command
use Rattle.cabinet_chest.specs.declared.shown.Note.{Note}
use Rattle.cache_core.specs.declared.outcome.Tile.{Tile}
use Rattle.catalog.specs.declared.catalogue.Catalogue.{Catalogue}
use Rattle.matrix_geometry.specs.declared.address.Address.{Address}
use Rattle.metatile_locks.specs.Tickets.{Ticketed}
use Rattle.raster_field.specs.Blocks.{blob_size, tile_part}
use Rattle.raster_field.specs.TileText.{tile_text}
use Rattle.source_render.specs.Renders.{GivenImage}
use Rattle.truncation_list.specs.declared.book.Cut.{Cut}
use Rattle.truncation_list.specs.declared.book.FrontedBook.{FrontedBook}
use Rattle.truncation_list.specs.Books.{AnswersFor}
use Rattle.turnstile.specs.declared.view.Made.{Made}
use Rattle.cache_access.specs.declared.fault.GetFault.{GetFault}
use Rattle.cache_access.specs.declared.fault.GetFault.TheVariants.{SourceFault, Spent, OutOfMemory}
use Rattle.cache_access.specs.Sourced.{AreFromSource}
use Rattle.cache_access.specs.Waits.{AreBusyAsks, IsAsk}

-- a finish of the ticket's render with this blob, whatever it was answered
abbrev pub IsFinish : Ticketed → List ℕ → Made Note → Type 0
IsFinish t blob m = m.note.command ≡ command.Finish t blob

-- the ticket's render is abandoned
abbrev pub IsAbandon : Ticketed → Made Note → Type 0
IsAbandon t m = m.note.command ≡ command.Abandon t

-- a kept tile: after the ask nothing follows
pub record IsFromKept (a : Address) (ask : Made Note) (ends : List (Made Note)) (tile : Tile) : Type 0 where
  pub hit : tile.hit ≡ true
  pub answer : IsAsk a (asked.Hit tile.number tile.bytes) ask
  pub nothing : ends ≡ []

-- a rendered one: the ask gave a ticket, and the tile is its part of the blob that is handed in for the ticket's render
pub record IsFromRender (c : Catalogue) (a : Address) (ask : Made Note) (ends : List (Made Note)) (tile : Tile) : Type 0 where
  pub miss : tile.hit ≡ false
  pub ticket : Ticketed
  pub number : tile.number ≡ ticket.number
  pub answer : IsAsk a (asked.Ticket ticket) ask
  pub blob : List ℕ
  pub long : length blob ≡ blob_size c ticket.meta
  pub part : tile.bytes ≡ tile_part c a blob
  pub end : Made Note
  pub handed : IsFinish ticket blob end
  pub one : ends ≡ end ∷ []

-- the number is above that of each truncation that covers the tile and for which the book answers
abbrev pub IsNewerThanBook : Catalogue → Address → ℕ → FrontedBook → Type 0
IsNewerThanBook c a k book = (cut : Cut) → IsTrue (covers_in c cut.cover a) → AnswersFor book.book cut → cut.number < k

-- THE TILE of a get by who had seen this book, and the turns that were made; `Sound` is what makes the bytes the encoded tile's
pub record HasGot (c : Catalogue) (Sound : Type 0) (a : Address) (seen : FrontedBook) (gained : List (Made Note)) (tile : Tile) : Type 0 where
  pub busy : List (Made Note)
  pub ask : Made Note
  pub ends : List (Made Note)
  pub all : gained ≡ busy ++ ask ∷ ends
  pub waited : AreBusyAsks a busy
  pub from : IsFromKept a ask ends tile ⊎ IsFromRender c a ask ends tile
  pub newer_than_seen : IsNewerThanBook c a tile.number seen
  pub newer_than_found : IsNewerThanBook c a tile.number ask.found
  pub fresh : IsFresh c ask.note.after.state.history (length ask.note.before.state.history) a tile.number
  pub truth : Sound → tile.bytes ≡ tile_text c tile.number a

-- A REFUSAL

-- the last ask found no number left
pub record HasMetSpent (a : Address) (gained : List (Made Note)) : Type 0 where
  pub busy : List (Made Note)
  pub ask : Made Note
  pub all : gained ≡ busy ++ ask ∷ []
  pub waited : AreBusyAsks a busy
  pub answer : IsAsk a asked.Spent ask

-- the last ask gave a ticket, which was abandoned
pub record HasAbandoned (a : Address) (gained : List (Made Note)) : Type 0 where
  pub busy : List (Made Note)
  pub ask : Made Note
  pub end : Made Note
  pub all : gained ≡ busy ++ ask ∷ end ∷ []
  pub waited : AreBusyAsks a busy
  pub ticket : Ticketed
  pub answer : IsAsk a (asked.Ticket ticket) ask
  pub ended : IsAbandon ticket end

-- the turns of a get that came to this
abbrev pub IsGot : Catalogue → Type 0 → Address → FrontedBook → List (Made Note) → Result Tile GetFault → Type 0
IsGot c Sound a seen gained (Ok tile) = HasGot c Sound a seen gained tile
IsGot c Sound a seen gained (Err SourceFault) = HasAbandoned a gained
IsGot c Sound a seen gained (Err Spent) = HasMetSpent a gained
IsGot c Sound a seen gained (Err OutOfMemory) = AreBusyAsks a gained ⊎ HasAbandoned a gained

-- THE WHOLE: the turns that a get made, and what it came to; what they handed in is cut out of what the source has given
module _ {C : Type 0} (leads : C → C → List (Made Note) → Type 0) where
  pub record Gets (c : Catalogue) (gave : List GivenImage) (Sound : Type 0) (a : Address) (seen : FrontedBook) (before after : C) (result : Result Tile GetFault) : Type 0 where
    pub gained : List (Made Note)
    pub gains : leads before after gained
    pub from_source : AreFromSource c gave gained
    pub got : IsGot c Sound a seen gained result
