-- in which lists a cut stands that covers a tile, or that lies within a cover
use Rattle.std.proofs.Common.{ℕ, ◌≤◌, ◌==◌, ◌&&◌, min, max, arith, IsTrue}
use Rattle.std.specs.Prelude.{nat_le}
use Rattle.matrix_geometry.specs.declared.address.Address.{Address}
use Rattle.matrix_geometry.specs.declared.matrix.Matrix.{Matrix}
use Rattle.matrix_geometry.specs.Admits.{admits}
use Rattle.truncation_list.specs.declared.block.Block.{Block}
use Rattle.truncation_list.specs.declared.cover.Cover.{Cover}
use Rattle.truncation_list.specs.Contains.{contains}
use Rattle.truncation_list.specs.Covers.{covers, hits, is_in_bounds, is_in_zoom, meets_bounds}
use Rattle.truncation_list.specs.Index.{first_list, last_list, list_of, stands}
use Rattle.truncation_list.proofs.Containment.{contains_within}
use Rattle.truncation_list.proofs.Decided.{both, eq_is, five, is_eq, is_le, join, le_is}

-- the numbers of a cover's lists, with no cover
pub first_below : (a b z : ℕ) → a ≤ z → z ≤ b → min (min a b) 31 ≤ min z 31
first_below a b z h k = omega arith

pub last_above : (a b z : ℕ) → a ≤ z → z ≤ b → min z 31 ≤ min (max a b) 31
last_above a b z h k = omega arith

pub stands_by : (layer grid k : ℕ) (cover : Cover) → IsTrue (cover.layer == layer) → IsTrue (cover.grid == grid) → first_list cover ≤ k → k ≤ last_list cover → IsTrue (stands layer grid k cover)
stands_by layer grid k cover l g f b =
    join ((cover.layer == layer) && (cover.grid == grid)) (nat_le (first_list cover) k && nat_le k (last_list cover))
    (join (cover.layer == layer) (cover.grid == grid) l g)
    (join (nat_le (first_list cover) k) (nat_le k (last_list cover)) (is_le (first_list cover) k f) (is_le k (last_list cover) b))

-- a cut that covers a tile stands in the list of the tile's zoom
pub covers_stands : (cover : Cover) (m : Matrix) (a : Address) → IsTrue (covers cover m a) → IsTrue (stands a.theme.layer a.grid (list_of a.z) cover)
covers_stands cover m a h =
    let t = five (cover.layer == a.theme.layer) (cover.grid == a.grid) (is_in_zoom cover a.z) (is_in_bounds cover.bounds m a.row a.col) (admits cover.filter a.theme) h in
    let z = both (nat_le cover.z_start a.z) (nat_le a.z cover.z_stop) t.2 in
    let s = le_is cover.z_start a.z z.0 in
    let e = le_is a.z cover.z_stop z.1 in
    stands_by a.theme.layer a.grid (list_of a.z) cover t.0 t.1 (first_below cover.z_start cover.z_stop a.z s e) (last_above cover.z_start cover.z_stop a.z s e)

-- and one that hits a block in that of the block's zoom
pub hits_stands : (cover : Cover) (m : Matrix) (block : Block) → IsTrue (hits cover m block) → IsTrue (stands block.theme.layer block.grid (list_of block.z) cover)
hits_stands cover m block h =
    let t = five (cover.layer == block.theme.layer) (cover.grid == block.grid) (is_in_zoom cover block.z) (meets_bounds cover.bounds m block.tiles) (admits cover.filter block.theme) h in
    let z = both (nat_le cover.z_start block.z) (nat_le block.z cover.z_stop) t.2 in
    let s = le_is cover.z_start block.z z.0 in
    let e = le_is block.z cover.z_stop z.1 in
    stands_by block.theme.layer block.grid (list_of block.z) cover t.0 t.1 (first_below cover.z_start cover.z_stop block.z s e) (last_above cover.z_start cover.z_stop block.z s e)

-- the lists of a cover and those of one that it contains have one in common
meet_first : (a b x y : ℕ) → a ≤ x → y ≤ b → min (min x y) 31 ≤ min (max a b) 31
meet_first a b x y h k = omega arith

meet_last : (a b x y : ℕ) → a ≤ x → y ≤ b → min (min a b) 31 ≤ min (max x y) 31
meet_last a b x y h k = omega arith

ordered : (x y : ℕ) → min (min x y) 31 ≤ min (max x y) 31
ordered x y = omega arith

pub record Meeting (outer inner : Cover) : Type 0 where
  pub k : ℕ
  pub first : first_list outer ≤ k
  pub last : k ≤ last_list outer
  pub stands : IsTrue (stands outer.layer outer.grid k inner)

pub contains_meets : (outer inner : Cover) → IsTrue (contains outer inner) → Meeting outer inner
contains_meets outer inner h =
    let w = contains_within outer inner h in
    let s = le_is outer.z_start inner.z_start w.z_start in
    let e = le_is inner.z_stop outer.z_stop w.z_stop in
    let f = meet_first outer.z_start outer.z_stop inner.z_start inner.z_stop s e in
    let l = meet_last outer.z_start outer.z_stop inner.z_start inner.z_stop s e in
    let o = ordered outer.z_start outer.z_stop in
    let i = ordered inner.z_start inner.z_stop in
    let layer = eq_is outer.layer inner.layer w.layer in
    let grid = eq_is outer.grid inner.grid w.grid in
    record {
      k = max (first_list outer) (first_list inner);
      first = omega arith;
      last = omega arith;
      stands = stands_by outer.layer outer.grid (max (first_list outer) (first_list inner)) inner (is_eq inner.layer outer.layer (omega arith)) (is_eq inner.grid outer.grid (omega arith)) (omega arith) (omega arith);
    }
