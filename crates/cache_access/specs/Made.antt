-- What a get or a refresh makes of its ticket.
-- A tie between the code and its definitions: the promise can be read without it.
use Rattle.std.specs.Prelude.{ℕ, ◌≡◌, false, List, [], ◌∷◌, length, Result, Ok, Err}
use Rattle.cabinet.specs.declared.replies.Finished.{Finished}
use Rattle.cabinet.specs.declared.replies.Finished.TheVariants as finished
use Rattle.cabinet_chest.specs.declared.command.Command.TheVariants as command
use Rattle.cabinet_chest.specs.declared.command.Reply.TheVariants as reply
use Rattle.cabinet_chest.specs.declared.shown.Note.{Note}
use Rattle.cache_core.specs.declared.outcome.Tile.{Tile}
use Rattle.cache_core.specs.Given.{IsCutOf}
use Rattle.catalog.specs.declared.catalogue.Catalogue.{Catalogue}
use Rattle.matrix_geometry.specs.declared.address.Address.{Address}
use Rattle.metatile_locks.specs.Tickets.{Ticketed}
use Rattle.raster_field.specs.Blocks.{blob_size, block_text, tile_part}
use Rattle.raster_field.specs.TileText.{tile_text}
use Rattle.source_render.specs.Renders.{GivenImage}
use Rattle.turnstile.specs.declared.view.Made.{Made}
use Rattle.cache_access.specs.declared.fault.GetFault.{GetFault}
use Rattle.cache_access.specs.declared.fault.GetFault.TheVariants.{SourceFault, Spent, OutOfMemory}
use Rattle.cache_access.specs.declared.refreshed.Refreshed.{Refreshed}
use Rattle.cache_access.specs.declared.refreshed.Refreshed.TheVariants.{AlreadyKept, Made as Remade, Unkept}
use Rattle.cache_access.specs.Gets.{IsAbandon, IsFinish}
use Rattle.cache_access.specs.Refreshes.{IsUnkept}
use Rattle.cache_access.specs.Turned.{GainsOne}

-- by which turns lead from one cache to another, the catalogue, what the source has given, and what makes a blob true
module _ {C : Type 0} (leads : C → C → List (Made Note) → Type 0) (c : Catalogue) (gave : List GivenImage) (True : Type 0) where
  -- the blob was rendered and handed in, and the tile is its part of it
  pub record HandsIn (a : Address) (t : Ticketed) (before after : C) (tile : Tile) : Type 0 where
    pub end : Made Note
    pub gains : leads before after (end ∷ [])
    pub miss : tile.hit ≡ false
    pub number : tile.number ≡ t.number
    pub blob : List ℕ
    pub long : length blob ≡ blob_size c t.meta
    pub cut : IsCutOf c gave t blob
    pub part : tile.bytes ≡ tile_part c a blob
    pub handed : IsFinish t blob end
    pub truth : True → tile.bytes ≡ tile_text c tile.number a

  -- the blob was rendered under the ticket's number and handed in, and that was answered so
  pub record HandsInBlob (t : Ticketed) (before after : C) (k : ℕ) (r : Finished) : Type 0 where
    pub number : k ≡ t.number
    pub blob : List ℕ
    pub long : length blob ≡ blob_size c t.meta
    pub cut : IsCutOf c gave t blob
    pub truth : True → blob ≡ block_text c t.number t.meta
    pub gains : GainsOne leads before after (command.Finish t blob) (reply.Finished r)

-- the ticket was given back
module _ {C : Type 0} (leads : C → C → List (Made Note) → Type 0) where
  pub record GivesBack (t : Ticketed) (before after : C) : Type 0 where
    pub end : Made Note
    pub gains : leads before after (end ∷ [])
    pub ended : IsAbandon t end

abbrev pub Makes : {C : Type 0} → (C → C → List (Made Note) → Type 0) → Catalogue → List GivenImage → Type 0 → Address → Ticketed → C → C → Result Tile GetFault → Type 0
Makes leads c gave True a t before after (Ok tile) = HandsIn leads c gave True a t before after tile
Makes leads c gave True a t before after (Err SourceFault) = GivesBack leads t before after
Makes leads c gave True a t before after (Err Spent) = ⊥
Makes leads c gave True a t before after (Err OutOfMemory) = GivesBack leads t before after

abbrev pub Remakes : {C : Type 0} → (C → C → List (Made Note) → Type 0) → Catalogue → List GivenImage → Type 0 → Ticketed → C → C → Result Refreshed GetFault → Type 0
Remakes leads c gave True t before after (Ok (AlreadyKept k)) = ⊥
Remakes leads c gave True t before after (Ok (Remade k)) = HandsInBlob leads c gave True t before after k finished.Kept
Remakes leads c gave True t before after (Ok (Unkept k)) = (r : Finished) × IsUnkept r × HandsInBlob leads c gave True t before after k r
Remakes leads c gave True t before after (Err SourceFault) = GivesBack leads t before after
Remakes leads c gave True t before after (Err Spent) = ⊥
Remakes leads c gave True t before after (Err OutOfMemory) = GivesBack leads t before after
