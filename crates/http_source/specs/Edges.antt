-- The edges of pixels, in units of the grid (OGC 07-057r7, section 6.1).
use Rattle.std.specs.Prelude.{ℕ, ℤ, pos, ◌^◌, ◌+ℤ◌, ◌*ℤ◌}
use Rattle.exact_ratio.specs.Values.{Fraction}
use Rattle.exact_ratio.specs.Fractions.{whole, ◌+ℚ◌, ◌-ℚ◌, ◌*ℚ◌}
use Rattle.matrix_geometry.specs.Geometry.{billionths}
use Rattle.matrix_geometry.specs.declared.matrix.Matrix.{Matrix}

-- so many pixels to the right of the left edge of the matrix
abbrev pub pixel_left : Matrix → ℕ → Fraction
pixel_left m x = billionths m.left +ℚ (whole (pos x) *ℚ m.span)

-- so many pixels below its upper edge
abbrev pub pixel_top : Matrix → ℕ → Fraction
pixel_top m y = billionths m.top -ℚ (whole (pos y) *ℚ m.span)

-- the same, so many pixels past a corner in billionths of a unit, over one denominator
abbrev pub edge : ℤ → ℤ → Fraction → Fraction
edge corner pixels span = record { n = (corner *ℤ span.d) +ℤ ((pixels *ℤ span.n) *ℤ pos (10 ^ 9)); d = pos (10 ^ 9) *ℤ span.d }
