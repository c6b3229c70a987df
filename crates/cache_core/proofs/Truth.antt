-- What a true actor answers is the encoded tile, and a cabinet stays sound where no blob is kept.
use Rattle.std.proofs.Common.{◌≡◌, ℕ, List, inl, inr, refl, sym, ◌∙◌, ap, subst}
use Rattle.cabinet.specs.Commands.{Abandons}
use Rattle.cabinet.specs.State.{State, IsSound}
use Rattle.catalog.specs.declared.catalogue.Catalogue.{Catalogue}
use Rattle.catalog.specs.LookUp.{IsTile}
use Rattle.catalog.specs.Valid.{IsValid}
use Rattle.matrix_geometry.specs.declared.address.Address.{Address}
use Rattle.metatile_locks.specs.Tickets.{Ticketed}
use Rattle.raster_field.specs.Blocks.{block_of, block_text, tile_part}
use Rattle.raster_field.specs.TileText.{tile_text}
use Rattle.cache_core.specs.declared.outcome.Tile.{Tile}
use Rattle.cache_core.specs.Fits.{IsBlobFor}

pub abandoned_sound : (s t : State) (k : Ticketed) → Abandons s k t → IsSound s → IsSound t
abandoned_sound s t k (inl h) sound = subst IsSound (sym h.1) sound
abandoned_sound s t k (inr h) sound = subst IsSound (sym h.1) sound

-- the tile beside a true blob is true
pub part_true : (c : Catalogue) (a : Address) (t : Ticketed) (blob : List ℕ) (tile : Tile) → IsValid c → IsTile c a → IsBlobFor c a t blob tile
    → tile_part c a (block_text c tile.number (block_of c a)) ≡ tile_text c tile.number a → blob ≡ block_text c t.number t.meta → tile.bytes ≡ tile_text c tile.number a
part_true c a t blob tile valid is_tile fit part true_blob =
    let same : block_text c t.number t.meta ≡ block_text c tile.number (block_of c a) = rw fit.ticket (rw fit.number refl) in
    fit.part ∙ ap (tile_part c a) (true_blob ∙ same) ∙ part
