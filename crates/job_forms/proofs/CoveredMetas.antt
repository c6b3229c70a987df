-- The metatiles of a cover are those of which it covers a tile.
use Rattle.std.proofs.Common.{◌≡◌, ℕ, ◌+◌, ◌-◌, ◌*◌, ◌/◌, ◌≤◌, ◌<◌, ◌==◌, max, length, false, Option, Some, None, IsTrue, slice_get, option_map, refl, sym, ap, subst, ◌∙◌, arith}
use Rattle.std.specs.Prelude.{Contains, IsSomeAnd, nat_le, option_and_then}
use Rattle.std.specs.Option.{option_map_or}
use Rattle.std.proofs.Math.Nat.{div-mul-le_self, mul-le-mul_right}
use Rattle.std.proofs.lemmas.Nat.{div-mul-add}
use Rattle.catalog.specs.declared.catalogue.Catalogue.{Catalogue}
use Rattle.catalog.specs.declared.grid.Grid.{Grid}
use Rattle.catalog.specs.declared.layer.Layer.{Layer}
use Rattle.catalog.specs.LookUp.{IsTile, matrix_in, matrix_of}
use Rattle.catalog.specs.Valid.{IsGrid, IsLayer, IsValid}
use Rattle.matrix_geometry.specs.declared.address.Address.{Address}
use Rattle.matrix_geometry.specs.declared.boxes.Box9.{Box9}
use Rattle.matrix_geometry.specs.declared.boxes.Range.{Range}
use Rattle.matrix_geometry.specs.declared.matrix.Matrix.{Matrix}
use Rattle.matrix_geometry.specs.declared.theme.Theme.{Theme}
use Rattle.matrix_geometry.specs.Admits.{admits}
use Rattle.matrix_geometry.specs.Geometry.{cols_of, range_between, range_of, rows_of}
use Rattle.matrix_geometry.specs.Limits.{IsWithinLimits}
use Rattle.matrix_geometry.specs.Ranges.{IsRangeOf, is_in_some_range}
use Rattle.matrix_geometry.proofs.Ranges.{range_inside}
use Rattle.metatile_plan.specs.declared.metatile.Factors.{Factors}
use Rattle.metatile_plan.specs.declared.metatile.MetaKey.{MetaKey}
use Rattle.raster_field.specs.Blocks.{block_of, factors_at, factors_of}
use Rattle.served_covers.specs.OfCatalogue.{IsCoverOf}
use Rattle.truncation_list.specs.declared.cover.Cover.{Cover}
use Rattle.truncation_list.specs.Covers.{covers, is_in_bounds, is_in_zoom}
use Rattle.truncation_list.proofs.Decided.{both, eq_is, five, is_eq, is_le, join, join_five, le_is}
use Rattle.truncation_list.proofs.Tiles.{Lies, in_range_lies, lies_in_range}
use Rattle.job_forms.specs.Covered.{CoversTileOf}
use Rattle.job_forms.specs.Places.{factors_for, from_to, gathered, metas_at, metas_in, metas_in_some, metas_in_row, metas_of, metas_on, metatiles, tiles_within, whole}
use Rattle.job_forms.specs.Themes.{themes}
use Rattle.job_forms.proofs.Choices.{IsChosen, admits_chosen, chosen_admits, chosen_length, chosen_style, chosen_themes, chosen_values, themes_chosen}
use Rattle.job_forms.proofs.Members.{Has, flat_has, has_flat, has_map, has_range, map_has, range_has}
use Rattle.job_forms.proofs.MetaRanges.{quotients}
use Rattle.job_forms.proofs.ZoomSteps.{all_at}

-- NUMBERS

from_to_has : (first last n : ℕ) → Has (from_to first last) n → (first ≤ n) × (n ≤ last)
from_to_has first last n h = let p = range_has first (last + 1 - first) n h in (p.0, omega (arith, p.0, p.1))

has_from_to : (first last n : ℕ) → first ≤ n → n ≤ last → Has (from_to first last) n
has_from_to first last n low high = has_range first (last + 1 - first) n low (omega (arith, low, high))

-- a place between two in the group of this number
within_group : (low high f q : ℕ) → 1 ≤ f → low ≤ high → low / f ≤ q → q ≤ high / f → (low ≤ max (q * f) low) × (max (q * f) low ≤ high) × (max (q * f) low / f ≡ q)
within_group low high f q some order first last =
    let a : q * f ≤ high / f * f = mul-le-mul_right f last in
    let b = div-mul-le_self high f in
    let d : low < low / f * f + f = omega arith in
    let e : low / f * f ≤ q * f = mul-le-mul_right f first in
    let rest : max (q * f) low ≡ q * f + (max (q * f) low - q * f) = omega arith in
    let small : max (q * f) low - q * f < f = omega (arith, d, e) in
    (omega arith, omega (arith, a, b), ap (λ (n : ℕ). n / f) rest ∙ div-mul-add q f (max (q * f) low - q * f) small)

-- THE TILES OF A COVER ON A MATRIX

range_is : (m : Matrix) (b : Box9) (t : Range) (rows cols : Option (ℕ × ℕ)) → rows_of m b ≡ rows → cols_of m b ≡ cols → range_between rows cols ≡ Some t → IsWithinLimits m → IsRangeOf m t
range_is m b t None cols er ec e limits = absurd (cc)
range_is m b t (Some rows) None er ec e limits = absurd (cc)
range_is m b t (Some rows) (Some cols) er ec e limits =
    let d : record { row_min = rows.0; row_max = rows.1; col_min = cols.0; col_max = cols.1 } ≡ t = cc in
    subst (λ (r : Range). IsRangeOf m r) d (range_inside m b rows cols (sym er) (sym ec) limits)

box_is : (m : Matrix) (b : Box9) (t : Range) → range_of m b ≡ Some t → IsWithinLimits m → IsRangeOf m t
unfolding range_of
box_is m b t e limits = range_is m b t (rows_of m b) (cols_of m b) refl refl e limits

tiles_are : (m : Matrix) (bounds : Option Box9) (t : Range) → tiles_within bounds m ≡ Some t → IsWithinLimits m → IsRangeOf m t
tiles_are m None t e limits =
    let d : whole m ≡ t = cc in
    let rows = limits.rows in let cols = limits.cols in
    subst (λ (r : Range). IsRangeOf m r) d (record { rows = omega arith; row_max = omega arith; cols = omega arith; col_max = omega arith })
tiles_are m (Some b) t e limits = box_is m b t e limits

-- a tile of the matrix is in the bounds exactly where it is one of these
range_bounds : (m : Matrix) (bounds : Option Box9) (t : Range) (row col : ℕ) → tiles_within bounds m ≡ Some t → Lies t row col → IsTrue (is_in_bounds bounds m row col)
range_bounds m None t row col e l = refl
range_bounds m (Some b) t row col e l = subst (λ (o : Option Range). IsTrue (is_in_some_range o row col)) (sym e) (lies_in_range t row col l)

in_some : (o : Option Range) (row col : ℕ) → IsTrue (is_in_some_range o row col) → (t : Range) × (o ≡ Some t) × Lies t row col
in_some None row col h = absurd (cc)
in_some (Some t) row col h = (t, refl, in_range_lies t row col h)

bounds_range : (m : Matrix) (bounds : Option Box9) (row col : ℕ) → row < m.rows → col < m.cols → IsTrue (is_in_bounds bounds m row col) → (t : Range) × (tiles_within bounds m ≡ Some t) × Lies t row col
bounds_range m None row col l k h = (whole m, refl, record { row_min = omega arith; row_max = omega (arith, l); col_min = omega arith; col_max = omega (arith, k) })
bounds_range m (Some b) row col l k h = in_some (range_of m b) row col h

-- THE METATILES ON A MATRIX

-- the metatile stands in these rows and columns
pub record IsInMetaRange (theme : Theme) (grid z : ℕ) (r : Range) (k : MetaKey) : Type 0 where
  pub row : ℕ
  pub col : ℕ
  pub row_min : r.row_min ≤ row
  pub row_max : row ≤ r.row_max
  pub col_min : r.col_min ≤ col
  pub col_max : col ≤ r.col_max
  pub same : record { theme = theme; grid = grid; z = z; row = row; col = col } ≡ k

pub metas_has : (theme : Theme) (grid z : ℕ) (r : Range) (k : MetaKey) → Has (metas_in theme grid z r) k → IsInMetaRange theme grid z r k
unfolding metas_in
metas_has theme grid z r k h =
    let p = flat_has (metas_in_row theme grid z r) (from_to r.row_min r.row_max) k h in
    let q = map_has (λ col. record { theme = theme; grid = grid; z = z; row = p.0; col = col }) (from_to r.col_min r.col_max) k p.2 in
    let rows = from_to_has r.row_min r.row_max p.0 p.1 in
    let cols = from_to_has r.col_min r.col_max q.0 q.1 in
    record { row = p.0; col = q.0; row_min = rows.0; row_max = rows.1; col_min = cols.0; col_max = cols.1; same = q.2 }

has_metas : (theme : Theme) (grid z : ℕ) (r : Range) (k : MetaKey) → IsInMetaRange theme grid z r k → Has (metas_in theme grid z r) k
unfolding metas_in
has_metas theme grid z r k is =
    has_flat (metas_in_row theme grid z r) (from_to r.row_min r.row_max) is.row k (has_from_to r.row_min r.row_max is.row is.row_min is.row_max)
    (subst (λ (x : MetaKey). Has (metas_in_row theme grid z r is.row) x) is.same
    (has_map (λ col. record { theme = theme; grid = grid; z = z; row = is.row; col = col }) (from_to r.col_min r.col_max) is.col (has_from_to r.col_min r.col_max is.col is.col_min is.col_max)))

-- where a cover has metatiles on a matrix, it has tiles there
pub record HasTilesOn (c : Catalogue) (cover : Cover) (z : ℕ) (r : Range) : Type 0 where
  pub matrix : Matrix
  pub tiles : Range
  pub there : matrix_in c cover.grid z ≡ Some matrix
  pub within : tiles_within cover.bounds matrix ≡ Some tiles
  pub gathered : gathered (factors_for c cover) tiles ≡ r

tiles_on : (c : Catalogue) (cover : Cover) (z : ℕ) (r : Range) (o : Option Matrix) (w : Matrix → Option Range) → ((m : Matrix) → w m ≡ tiles_within cover.bounds m) → matrix_in c cover.grid z ≡ o
    → option_and_then (λ m. option_map (gathered (factors_for c cover)) (w m)) o ≡ Some r → HasTilesOn c cover z r
tiles_on c cover z r None w same em e = absurd (cc)
tiles_on c cover z r (Some m) w same em e = found (w m) refl e where
  found : (o : Option Range) → w m ≡ o → option_map (gathered (factors_for c cover)) o ≡ Some r → HasTilesOn c cover z r
  found None et d = absurd (cc)
  found (Some t) et d = let k : gathered (factors_for c cover) t ≡ r = cc in record { matrix = m; tiles = t; there = em; within = sym (same m) ∙ et; gathered = k }

metas_tiles : (c : Catalogue) (cover : Cover) (z : ℕ) (r : Range) → metas_at c cover z ≡ Some r → HasTilesOn c cover z r
unfolding metas_at
metas_tiles c cover z r e = tiles_on c cover z r (matrix_in c cover.grid z) (tiles_within cover.bounds) (λ m. refl) refl e

tiles_metas : (c : Catalogue) (cover : Cover) (z : ℕ) (m : Matrix) (t : Range) → matrix_in c cover.grid z ≡ Some m → tiles_within cover.bounds m ≡ Some t → metas_at c cover z ≡ Some (gathered (factors_for c cover) t)
unfolding metas_at
tiles_metas c cover z m t em et =
    ap (λ (o : Option Matrix). option_and_then (λ m. option_map (gathered (factors_for c cover)) (tiles_within cover.bounds m)) o) em ∙ ap (λ (o : Option Range). option_map (gathered (factors_for c cover)) o) et

pub some_has : (theme : Theme) (grid z : ℕ) (o : Option Range) (k : MetaKey) → Has (metas_in_some theme grid z o) k → (r : Range) × (o ≡ Some r) × Has (metas_in theme grid z r) k
some_has theme grid z None k h = absurd h
some_has theme grid z (Some r) k h = (r, refl, h)

-- A METATILE OF THE LIST

factors_same : (c : Catalogue) (cover : Cover) (theme : Theme) → cover.layer ≡ theme.layer → factors_for c cover ≡ factors_at c theme
factors_same c cover theme e = ap (λ (l : ℕ). option_map_or factors_of (slice_get c.layers l) (record { x = 1; y = 1; gutter = 0 })) e

meta_same : (theme : Theme) (grid z row col row2 col2 : ℕ) → row ≡ row2 → col ≡ col2
    → (let k : MetaKey = record { theme = theme; grid = grid; z = z; row = row; col = col } in k) ≡ record { theme = theme; grid = grid; z = z; row = row2; col = col2 }
meta_same theme grid z row col row2 col2 e d = rw (e, d) refl

zoom_in : (cover : Cover) (z : ℕ) → cover.z_start ≤ z → z ≤ cover.z_stop → IsTrue (is_in_zoom cover z)
zoom_in cover z low high = join (nat_le cover.z_start z) (nat_le z cover.z_stop) (is_le cover.z_start z low) (is_le z cover.z_stop high)

-- the tile of the metatile that the cover covers
listed : (c : Catalogue) (cover : Cover) (theme : Theme) (z : ℕ) (r : Range) (k : MetaKey) → IsCoverOf c cover → IsChosen c cover theme → cover.z_start ≤ z → z ≤ cover.z_stop
    → (t : HasTilesOn c cover z r) → IsWithinLimits t.matrix → 1 ≤ (factors_for c cover).x → 1 ≤ (factors_for c cover).y → IsInMetaRange theme cover.grid z r k → CoversTileOf c cover k
listed c cover theme z r k of is low high t limits x y p =
    let f = factors_for c cover in
    let inside = tiles_are t.matrix cover.bounds t.tiles t.within limits in
    let first_row : t.tiles.row_min / f.y ≤ p.row = subst (λ (q : Range). q.row_min ≤ p.row) (sym t.gathered) p.row_min in
    let last_row : p.row ≤ t.tiles.row_max / f.y = subst (λ (q : Range). p.row ≤ q.row_max) (sym t.gathered) p.row_max in
    let first_col : t.tiles.col_min / f.x ≤ p.col = subst (λ (q : Range). q.col_min ≤ p.col) (sym t.gathered) p.col_min in
    let last_col : p.col ≤ t.tiles.col_max / f.x = subst (λ (q : Range). p.col ≤ q.col_max) (sym t.gathered) p.col_max in
    let rows = within_group t.tiles.row_min t.tiles.row_max f.y p.row y inside.rows first_row last_row in
    let cols = within_group t.tiles.col_min t.tiles.col_max f.x p.col x inside.cols first_col last_col in
    let row = max (p.row * f.y) t.tiles.row_min in
    let col = max (p.col * f.x) t.tiles.col_min in
    let tile : Address = record { theme = theme; grid = cover.grid; z = z; row = row; col = col } in
    let lies : Lies t.tiles row col = record { row_min = rows.0; row_max = rows.1; col_min = cols.0; col_max = cols.1 } in
    let there : (row < t.matrix.rows) × (col < t.matrix.cols) = (omega (arith, rows.1, inside.row_max), omega (arith, cols.1, inside.col_max)) in
    let own : factors_at c theme ≡ f = sym (factors_same c cover theme is.layer) in
    let held : block_of c tile ≡ record { theme = theme; grid = cover.grid; z = z; row = p.row; col = p.col } =
    meta_same theme cover.grid z (row / (factors_at c theme).y) (col / (factors_at c theme).x) p.row p.col (ap (λ (g : Factors). row / g.y) own ∙ rows.2) (ap (λ (g : Factors). col / g.x) own ∙ cols.2) in
    let covered : IsTrue (covers cover t.matrix tile) =
    join_five (cover.layer == theme.layer) (cover.grid == cover.grid) (is_in_zoom cover z) (is_in_bounds cover.bounds t.matrix row col) (admits cover.filter theme)
    (is_eq cover.layer theme.layer is.layer) (is_eq cover.grid cover.grid refl) (zoom_in cover z low high) (range_bounds t.matrix cover.bounds t.tiles row col t.within lies) (chosen_admits c cover theme is) in
    record {
      tile = tile;
      in_catalogue = record {
        layer = subst (λ (l : ℕ). IsSomeAnd (slice_get c.layers l) (λ x. Contains x.grids cover.grid)) is.layer of.grid;
        style = chosen_style c cover theme of is;
        values = chosen_values c cover theme of is;
        place = subst (λ (o : Option Matrix). IsSomeAnd o (λ m. (row < m.rows) × (col < m.cols))) (sym t.there) there;
      };
      values = chosen_length c cover theme is;
      held = held ∙ p.same;
      covered = subst (λ (o : Option Matrix). IsTrue (option_map_or (λ m. covers cover m tile) o false)) (sym t.there) covered;
    }

grid_limits : (c : Catalogue) (grid z : ℕ) (m : Matrix) (o : Option Grid) → IsValid c → slice_get c.grids grid ≡ o → option_and_then (λ g. slice_get g.matrices z) o ≡ Some m → IsWithinLimits m
grid_limits c grid z m None valid eg e = absurd (cc)
grid_limits c grid z m (Some g) valid eg e = all_at IsWithinLimits g.matrices z m (all_at IsGrid c.grids grid g valid.grids eg) e

limits_at : (c : Catalogue) (grid z : ℕ) (m : Matrix) → IsValid c → matrix_in c grid z ≡ Some m → IsWithinLimits m
limits_at c grid z m valid e = grid_limits c grid z m (slice_get c.grids grid) valid refl e

least : (c : Catalogue) (cover : Cover) (o : Option Layer) → IsValid c → slice_get c.layers cover.layer ≡ o → IsSomeAnd o (λ l. Contains l.grids cover.grid)
    → (1 ≤ (option_map_or factors_of o (record { x = 1; y = 1; gutter = 0 })).x) × (1 ≤ (option_map_or factors_of o (record { x = 1; y = 1; gutter = 0 })).y)
least c cover None valid e h = absurd h
least c cover (Some l) valid e h = let is = all_at IsLayer c.layers cover.layer l valid.layers e in (is.meta_x, is.meta_y)

factors_least : (c : Catalogue) (cover : Cover) → IsValid c → IsCoverOf c cover → (1 ≤ (factors_for c cover).x) × (1 ≤ (factors_for c cover).y)
factors_least c cover valid of = least c cover (slice_get c.layers cover.layer) valid refl of.grid

-- the cover covers a tile of each metatile of the list
pub metatiles_covered : (c : Catalogue) (cover : Cover) (k : MetaKey) → IsValid c → IsCoverOf c cover → Has (metatiles c cover) k → CoversTileOf c cover k
unfolding metatiles
metatiles_covered c cover k valid of h =
    let p = flat_has (metas_of c cover) (themes c cover) k h in
    let q = flat_has (metas_on c cover p.0) (from_to cover.z_start cover.z_stop) k p.2 in
    let zoom = from_to_has cover.z_start cover.z_stop q.0 q.1 in
    let r = some_has p.0 cover.grid q.0 (metas_at c cover q.0) k q.2 in
    let t = metas_tiles c cover q.0 r.0 r.1 in
    let f = factors_least c cover valid of in
    listed c cover p.0 q.0 r.0 k of (themes_chosen c cover p.0 p.1) zoom.0 zoom.1 t (limits_at c cover.grid q.0 t.matrix valid t.there) f.0 f.1 (metas_has p.0 cover.grid q.0 r.0 k r.2)

-- A METATILE OF A COVERED TILE

-- a tile of the catalogue has a matrix
record HasMatrix (c : Catalogue) (cover : Cover) (a : Address) : Type 0 where
  matrix : Matrix
  there : matrix_of c a ≡ Some matrix
  row : a.row < matrix.rows
  col : a.col < matrix.cols
  covered : IsTrue (covers cover matrix a)

matrix_is : (c : Catalogue) (cover : Cover) (a : Address) (o : Option Matrix) → matrix_of c a ≡ o → IsSomeAnd o (λ m. (a.row < m.rows) × (a.col < m.cols)) → IsTrue (option_map_or (λ m. covers cover m a) o false) → HasMatrix c cover a
matrix_is c cover a None e h k = absurd h
matrix_is c cover a (Some m) e h k = record { matrix = m; there = e; row = h.0; col = h.1; covered = k }

range_of_tile : (c : Catalogue) (cover : Cover) (a : Address) (t : Range) → 1 ≤ (factors_for c cover).x → 1 ≤ (factors_for c cover).y → cover.layer ≡ a.theme.layer → cover.grid ≡ a.grid → Lies t a.row a.col
    → IsInMetaRange a.theme cover.grid a.z (gathered (factors_for c cover) t) (block_of c a)
range_of_tile c cover a t x y layer grid l =
    let f = factors_for c cover in
    let own : f ≡ factors_at c a.theme = factors_same c cover a.theme layer in
    record {
      row = a.row / f.y;
      col = a.col / f.x;
      row_min = quotients t.row_min a.row f.y l.row_min y;
      row_max = quotients a.row t.row_max f.y l.row_max y;
      col_min = quotients t.col_min a.col f.x l.col_min x;
      col_max = quotients a.col t.col_max f.x l.col_max x;
      same = meta_same a.theme cover.grid a.z (a.row / f.y) (a.col / f.x) (a.row / (factors_at c a.theme).y) (a.col / (factors_at c a.theme).x) (ap (λ (g : Factors). a.row / g.y) own) (ap (λ (g : Factors). a.col / g.x) own)
          ∙ ap (λ (g : ℕ). let k : MetaKey = record { theme = a.theme; grid = g; z = a.z; row = a.row / (factors_at c a.theme).y; col = a.col / (factors_at c a.theme).x } in k) grid;
    }

holds : (c : Catalogue) (cover : Cover) (a : Address) → IsValid c → IsCoverOf c cover → IsTile c a → length a.theme.dims ≡ length cover.filter.dims → HasMatrix c cover a → Has (metatiles c cover) (block_of c a)
unfolding metatiles
holds c cover a valid of is values m =
    let five = five (cover.layer == a.theme.layer) (cover.grid == a.grid) (is_in_zoom cover a.z) (is_in_bounds cover.bounds m.matrix a.row a.col) (admits cover.filter a.theme) m.covered in
    let layer = eq_is cover.layer a.theme.layer five.0 in
    let grid = eq_is cover.grid a.grid five.1 in
    let zoom = both (nat_le cover.z_start a.z) (nat_le a.z cover.z_stop) five.2 in
    let t = bounds_range m.matrix cover.bounds a.row a.col m.row m.col five.3 in
    let f = factors_least c cover valid of in
    let chosen = chosen_themes c cover a.theme (admits_chosen c cover a.theme layer is.style is.values values five.4) in
    let em : matrix_in c cover.grid a.z ≡ Some m.matrix = subst (λ (g : ℕ). matrix_in c g a.z ≡ Some m.matrix) (sym grid) m.there in
    let metas = tiles_metas c cover a.z m.matrix t.0 em t.1 in
    let here = has_metas a.theme cover.grid a.z (gathered (factors_for c cover) t.0) (block_of c a) (range_of_tile c cover a t.0 f.0 f.1 layer grid t.2) in
    let on : Has (metas_on c cover a.theme a.z) (block_of c a) = subst (λ (o : Option Range). Has (metas_in_some a.theme cover.grid a.z o) (block_of c a)) (sym metas) here in
    has_flat (metas_of c cover) (themes c cover) a.theme (block_of c a) chosen
    (has_flat (metas_on c cover a.theme) (from_to cover.z_start cover.z_stop) a.z (block_of c a) (has_from_to cover.z_start cover.z_stop a.z (le_is cover.z_start a.z zoom.0) (le_is a.z cover.z_stop zoom.1)) on)

-- the list has each metatile of which the cover covers a tile
pub covered_metatiles : (c : Catalogue) (cover : Cover) (k : MetaKey) → IsValid c → IsCoverOf c cover → CoversTileOf c cover k → Has (metatiles c cover) k
covered_metatiles c cover k valid of t =
    subst (λ (x : MetaKey). Has (metatiles c cover) x) t.held
    (holds c cover t.tile valid of t.in_catalogue t.values (matrix_is c cover t.tile (matrix_of c t.tile) refl t.in_catalogue.place t.covered))
