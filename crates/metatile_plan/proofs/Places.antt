-- The place of a tile in its block.
use Rattle.std.proofs.Common.{◌≡◌, ℕ, zero, suc, ◌+◌, ◌-◌, ◌*◌, ◌<◌, ◌≤◌, ap, arith, sym}
use Rattle.std.proofs.Math.Nat.{mul-le-mul_right}
use Rattle.matrix_geometry.specs.declared.boxes.Range.{Range}
use Rattle.matrix_geometry.specs.declared.matrix.Matrix.{Matrix}
use Rattle.metatile_plan.specs.declared.metatile.Factors.{Factors}
use Rattle.metatile_plan.specs.declared.metatile.MetaKey.{MetaKey}
use Rattle.metatile_plan.specs.Plan.{IsIn, tiles_of}
use Rattle.metatile_plan.specs.Texts.{across, down, blob_len, place_in, span_of, tile_len}

-- row `above` and column `before` of a block of so many rows and columns
below : (above before width height : ℕ) → above < height → before < width → above * width + before + 1 ≤ width * height
below above before width height row col =
    let h : (above + 1) * width ≤ height * width = mul-le-mul_right width (omega arith) in omega (arith, h)

place_below : (r : Range) (row col : ℕ) → IsIn r row col → place_in r row col + 1 ≤ across r * down r
place_below r row col is = below (row - r.row_min) (col - r.col_min) (across r) (down r) (omega (arith, is.row_min, is.row_max)) (omega (arith, is.col_min, is.col_max))

-- an encoded tile ends within the blob
pub span_within : (f : Factors) (m : Matrix) (k : MetaKey) (row col : ℕ) → IsIn (tiles_of f m k) row col → (span_of f m k row col).start + (span_of f m k row col).length ≤ blob_len f m k
span_within f m k row col is =
    let h = mul-le-mul_right (tile_len m) (place_below (tiles_of f m k) row col is) in omega (arith, h)

last_place : (width height : ℕ) → 1 ≤ width → 1 ≤ height → (height - 1) * width + (width - 1) + 1 ≡ width * height
last_place (suc w) (suc h) _ _ = grind arith
last_place zero h some _ = absurd (omega (arith, some))
last_place (suc w) zero _ some = absurd (omega (arith, some))

-- that of the last tile ends where the blob does
last_of : (r : Range) → IsIn r r.row_max r.col_max → place_in r r.row_max r.col_max + 1 ≡ across r * down r
last_of r is =
    let rows : r.row_min ≤ r.row_max = is.row_min in let cols : r.col_min ≤ r.col_max = is.col_min in
    let some : 1 ≤ across r = omega arith in let more : 1 ≤ down r = omega arith in
    let e = last_place (across r) (down r) some more in
    let row : r.row_max - r.row_min ≡ down r - 1 = omega arith in
    let col : r.col_max - r.col_min ≡ across r - 1 = omega arith in
    rw (row, col) e

pub last_ends : (f : Factors) (m : Matrix) (k : MetaKey) → IsIn (tiles_of f m k) (tiles_of f m k).row_max (tiles_of f m k).col_max
    → (span_of f m k (tiles_of f m k).row_max (tiles_of f m k).col_max).start + (span_of f m k (tiles_of f m k).row_max (tiles_of f m k).col_max).length ≡ blob_len f m k
last_ends f m k is =
    let e = ap (λ n. n * tile_len m) (last_of (tiles_of f m k) is) in
    let r = tiles_of f m k in
    let d : (place_in r r.row_max r.col_max + 1) * tile_len m ≡ place_in r r.row_max r.col_max * tile_len m + tile_len m = grind arith in
    rw (sym d) e
