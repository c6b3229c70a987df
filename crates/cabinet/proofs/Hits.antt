-- A cover that is for a tile hits the metatile of the tile.
use Rattle.std.proofs.Common.{ℕ, ◌≡◌, ◌+◌, ◌-◌, ◌*◌, ◌/◌, ◌<◌, ◌≤◌, min, false, Option, Some, None, IsTrue, refl, arith}
use Rattle.std.specs.Option.{option_map_or}
use Rattle.std.proofs.Math.Nat.{div-mul-le_self, lt-div-mul-add}
use Rattle.catalog.specs.declared.catalogue.Catalogue.{Catalogue}
use Rattle.catalog.specs.LookUp.{IsTile, matrix_in}
use Rattle.catalog.specs.Valid.{IsValid}
use Rattle.matrix_geometry.specs.declared.address.Address.{Address}
use Rattle.matrix_geometry.specs.declared.matrix.Matrix.{Matrix}
use Rattle.matrix_geometry.specs.Ranges.{is_in_range}
use Rattle.metatile_plan.specs.declared.metatile.Factors.{Factors}
use Rattle.metatile_plan.specs.Plan.{meta_of, tiles_of, IsPlan}
use Rattle.raster_field.specs.Blocks.{block_of, factors_at}
use Rattle.raster_field.proofs.Metas.{tile_meta, plan_of, tile_within}
use Rattle.metatile_locks.specs.Running.{block}
use Rattle.truncation_list.specs.declared.cover.Cover.{Cover}
use Rattle.truncation_list.specs.Covers.{covers, hits}
use Rattle.truncation_list.proofs.Tiles.{hits_is, lies_in_range}
use Rattle.cabinet.specs.Hits.{hits_of, covers_in}

-- one side: a place lies in the block that it falls into
in_side : (n f count : ℕ) → 1 ≤ f → n < count → (n / f * f ≤ n) × (n ≤ min (n / f * f + f) count - 1)
in_side n f count some within =
    let low : n / f * f ≤ n = div-mul-le_self n f in
    let high : n < n / f * f + f = lt-div-mul-add some in
    (low, omega (arith, low, high))

tile_in_block : (f : Factors) (m : Matrix) (a : Address) → IsPlan f m → a.row < m.rows → a.col < m.cols → IsTrue (is_in_range (tiles_of f m (meta_of f a)) a.row a.col)
tile_in_block f m a plan row col =
    let r = in_side a.row f.y m.rows plan.y row in let k = in_side a.col f.x m.cols plan.x col in
    lies_in_range (tiles_of f m (meta_of f a)) a.row a.col (record { row_min = r.0; row_max = r.1; col_min = k.0; col_max = k.1 })

hit_at : (c : Catalogue) (cover : Cover) (a : Address) → IsValid c → IsTile c a → (o : Option Matrix) → matrix_in c a.grid a.z ≡ o → IsTrue (option_map_or (λ x. covers cover x a) o false)
    → IsTrue (option_map_or (λ x. hits cover x (block (factors_at c a.theme) x (block_of c a))) o false)
hit_at c cover a valid tile None e h = h
hit_at c cover a valid tile (Some x) e h =
    let within = tile_within c a x tile e in
    (hits_is cover x (block (factors_at c a.theme) x (block_of c a))).1 (record {
      row = a.row;
      col = a.col;
      in_block = tile_in_block (factors_at c a.theme) x a (plan_of c (block_of c a) x valid (tile_meta c a tile) e) within.0 within.1;
      covered = h;
    })

-- a cover that is for the tile hits its metatile
pub covered_hit : (c : Catalogue) (cover : Cover) (a : Address) → IsValid c → IsTile c a → IsTrue (covers_in c cover a) → IsTrue (hits_of c cover (block_of c a))
covered_hit c cover a valid tile h = hit_at c cover a valid tile (matrix_in c a.grid a.z) refl h
