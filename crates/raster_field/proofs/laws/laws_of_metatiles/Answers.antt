use Rattle.raster_field.specs.Blocks.{block_of, factors_at}
use Rattle.raster_field.proofs.Metas.{block_length, has_scene, its_plan, limits_of, parts, place_of_meta, plan_of, tile_meta, tile_part_is, tile_within}
use Rattle.raster_field.proofs.laws.laws_of_metatiles.Goals as goal

pub returns : goal.returns
returns c = record {
  meta = tile_meta;
  limits = limits_of;
  plan = plan_of;
  place = place_of_meta;
  scene = has_scene;
  size = λ x k number is. block_length x k number is;
  part = λ x a number valid is.
      let meta = tile_meta x a is in let p = parts x (block_of x a) meta in
      let within = tile_within x a p.its_matrix is p.matrix in
      tile_part_is x (block_of x a) number a.row a.col meta (c.laws_of_blocks.ensures.tile (factors_at x a.theme) p.its_matrix a (its_plan x (block_of x a) valid p) within.0 within.1);
}
