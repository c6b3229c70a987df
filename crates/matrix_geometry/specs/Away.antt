-- one floor over one common denominator
use Rattle.std.specs.Prelude.{ℕ, ◌^◌, ℤ, ◌+ℤ◌, ◌*ℤ◌, pos}
use Rattle.std.specs.Int.{int_div_euclid}
use Rattle.exact_ratio.specs.Values.{Fraction}

-- the floor of a distance, in billionths of a unit, in tiles of so many pixels, and of so many billionths of a tile more
unfoldable pub tiles_away : ℤ → ℕ → Fraction → ℤ → ℤ
tiles_away distance side span more =
    let tile = pos side *ℤ span.n in
    int_div_euclid ((distance *ℤ span.d) +ℤ (more *ℤ tile)) (pos (10 ^ 9) *ℤ tile)
