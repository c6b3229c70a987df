-- The text of each tile of a catalogue's pictures is a pixmap.
use Rattle.std.proofs.Common.{◌≡◌, ℕ, ◌+◌, ◌*◌, ◌++◌, List, length, refl, sym, subst, arith, Option, length-append}
use Rattle.catalog.specs.declared.catalogue.Catalogue.{Catalogue}
use Rattle.catalog.specs.LookUp.{IsTile}
use Rattle.catalog.specs.Valid.{IsValid}
use Rattle.matrix_geometry.specs.declared.address.Address.{Address}
use Rattle.metatile_plan.specs.Texts.{header}
use Rattle.raster_field.specs.Blocks.{block_of}
use Rattle.raster_field.specs.Picture.{Scene}
use Rattle.raster_field.specs.TileText.{pixels, pixels_in, text_in, tile_text}
use Rattle.raster_field.proofs.Metas.{Parts, its_limits, parts, scene_is, tile_length, tile_meta}
use Rattle.tile_png.specs.Pixmap.{IsPixmap, head}
use Rattle.tile_png.specs.Tiles.{IsSpeltTile}
use Rattle.tile_png.proofs.Heads.{spelt}

module _ (c : Catalogue) (a : Address) (number : ℕ) (valid : IsValid c) (is : IsTile c a) where
  abbrev its : Parts c (block_of c a)
  its = parts c (block_of c a) (tile_meta c a is)

  text_is : tile_text c number a ≡ head its.its_matrix.tile_w its.its_matrix.tile_h ++ pixels c c.source number a
  text_is =
      let P : Option Scene → Type 0 = λ o. text_in o a.row a.col ≡ head its.its_matrix.tile_w its.its_matrix.tile_h ++ pixels_in o a.row a.col in
      subst P (sym (scene_is c (block_of c a) its c.source number)) refl

  long : length (pixels c c.source number a) ≡ 3 * its.its_matrix.tile_w * its.its_matrix.tile_h
  long =
      let all = tile_length c (block_of c a) its number a.row a.col in
      let both : length (tile_text c number a) ≡ length (header its.its_matrix) + length (pixels c c.source number a) = subst (λ (text : List ℕ). length text ≡ length (header its.its_matrix) + length (pixels c c.source number a)) (sym text_is) (length-append (header its.its_matrix) (pixels c c.source number a)) in
      omega (arith, all, both)

  is_pixmap : IsPixmap its.its_matrix.tile_w its.its_matrix.tile_h (pixels c c.source number a) (tile_text c number a)
  is_pixmap =
      let limits = its_limits c (block_of c a) valid its in
      let w = limits.tile_w_most in
      let h = limits.tile_h_most in
      record {
        is = text_is;
        picture = record { some_width = limits.tile_w; width_most = omega arith; some_height = limits.tile_h; height_most = omega arith; whole = long };
      }

  pub tile_spelt : IsSpeltTile c number a
  tile_spelt = record { matrix = its.its_matrix; its = its.matrix; spelt = spelt its.its_matrix.tile_w its.its_matrix.tile_h (pixels c c.source number a) (tile_text c number a) is_pixmap }
