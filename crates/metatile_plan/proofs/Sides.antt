-- Blocks and windows, one side at a time.
use Rattle.std.proofs.Common.{◌≡◌, ℕ, ◌+◌, ◌-◌, ◌*◌, ◌/◌, ◌<◌, ◌≤◌, min, arith}
use Rattle.std.proofs.Math.Nat.{div-eq_of_lt-le, mul-le-mul_right}
use Rattle.std.proofs.lemmas.Nat.{mul-le}
use Rattle.matrix_geometry.specs.declared.matrix.Matrix.{Matrix}
use Rattle.matrix_geometry.specs.Limits.{IsWithinLimits}
use Rattle.metatile_plan.specs.declared.metatile.Factors.{Factors}
use Rattle.metatile_plan.specs.declared.metatile.MetaKey.{MetaKey}
use Rattle.metatile_plan.specs.Plan.{IsIn, IsMetaIn, IsPlan, IsWindowOn, tiles_of, window_of}

-- a number from k times f on, and less than f above it
quotient : (k f n count : ℕ) → 1 ≤ f → k * f < count → k * f ≤ n → n ≤ min (k * f + f) count - 1 → (n < count) × (n / f ≡ k)
quotient k f n count is some least most =
    (omega arith, div-eq_of_lt-le f least (let e : (k + 1) * f ≡ k * f + f = grind arith in rw e (omega arith)))

pub row_of_block : (f : Factors) (m : Matrix) (k : MetaKey) (row col : ℕ) → IsPlan f m → IsMetaIn f m k → IsIn (tiles_of f m k) row col → (row < m.rows) × (row / f.y ≡ k.row)
row_of_block f m k row col plan meta is = quotient k.row f.y row m.rows plan.y meta.row is.row_min is.row_max

pub col_of_block : (f : Factors) (m : Matrix) (k : MetaKey) (row col : ℕ) → IsPlan f m → IsMetaIn f m k → IsIn (tiles_of f m k) row col → (col < m.cols) × (col / f.x ≡ k.col)
col_of_block f m k row col plan meta is = quotient k.col f.x col m.cols plan.x meta.col is.col_min is.col_max

-- one side of a window: it has the pixels of the tiles `first` to `last`, and lies within the matrix
record IsSide (first last count tile most from length : ℕ) : Type 0 where
  pub least : from ≤ first * tile
  pub greatest : (last + 1) * tile ≤ from + length
  pub within : from + length ≤ count * tile
  pub bound : length ≤ most

side : (first last count tile gutter few : ℕ) → first ≤ last → last < count → last < first + few
    → IsSide first last count tile (few * tile + 2 * gutter) (first * tile - gutter) (min ((last + 1) * tile + gutter) (count * tile) - (first * tile - gutter))
side first last count tile gutter few order within short =
    let whole : (last + 1) * tile ≤ count * tile = mul-le-mul_right tile (omega arith) in
    let most : (last + 1) * tile ≤ first * tile + few * tile = (let e : (last + 1) * tile ≤ (first + few) * tile = mul-le-mul_right tile (omega arith) in omega (arith, e)) in
    let some : first * tile ≤ (last + 1) * tile = mul-le-mul_right tile (omega arith) in
    record { least = omega arith; greatest = omega arith; within = omega arith; bound = omega arith }

-- the last tile of a side of a block
last_of : (k f count : ℕ) → 1 ≤ f → k * f < count → (k * f ≤ min (k * f + f) count - 1) × (min (k * f + f) count - 1 < count) × (min (k * f + f) count - 1 < k * f + f)
last_of k f count some within = (omega arith, omega arith, omega arith)

pub window_on : (f : Factors) (m : Matrix) (k : MetaKey) → IsWithinLimits m → IsPlan f m → IsMetaIn f m k → IsWindowOn m (tiles_of f m k) (window_of f m k)
window_on f m k limits plan meta =
    let c = last_of k.col f.x m.cols plan.x meta.col in
    let r = last_of k.row f.y m.rows plan.y meta.row in
    let across = side (k.col * f.x) (min (k.col * f.x + f.x) m.cols - 1) m.cols m.tile_w f.gutter f.x c.0 c.1 c.2 in
    let down = side (k.row * f.y) (min (k.row * f.y + f.y) m.rows - 1) m.rows m.tile_h f.gutter f.y r.0 r.1 r.2 in
    let wide : f.x * m.tile_w ≤ 8 * 512 = mul-le f.x m.tile_w 8 512 plan.x_most limits.tile_w_most in
    let high : f.y * m.tile_h ≤ 8 * 512 = mul-le f.y m.tile_h 8 512 plan.y_most limits.tile_h_most in
    let gutter : f.gutter ≤ 64 = plan.gutter_most in
    let width = across.bound in let height = down.bound in
    let both = mul-le (window_of f m k).width (window_of f m k).height (f.x * m.tile_w + 2 * f.gutter) (f.y * m.tile_h + 2 * f.gutter) width height in
    record {
      left = across.least;
      right = across.greatest;
      top = down.least;
      bottom = down.greatest;
      wide = across.within;
      high = down.within;
      width_most = omega (arith, width, wide, gutter);
      height_most = omega (arith, height, high, gutter);
      small = omega (arith, both, plan.small);
    }
