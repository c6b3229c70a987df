-- A matrix of its span or its scale denominator, or why there is none, in exact numbers.
use Rattle.std.specs.Prelude.{ℕ, ◌*◌, ◌^◌, ◌%◌, ◌==◌, ◌&&◌, ◌*ℤ◌, ℤ, pos, unsigned_abs, int_div, Bool, not, nat_lt, nat_le, if◌then◌else◌, Option, Some, None, Result, Ok, Err}
use Rattle.std.specs.Int.{is_positive}
use Rattle.exact_ratio.specs.Values.{Fraction, Scaled}
use Rattle.exact_ratio.specs.Fractions.{◌*ℚ◌, ◌/ℚ◌, lowest_terms}
use Rattle.matrix_geometry.specs.declared.making.GridFault.{GridFault}
use Rattle.matrix_geometry.specs.declared.making.GridFault.TheVariants.{CoordinateTooLarge, ZeroSpan, NumberTooFine, TileSize, TooManyTiles, ExtentTooLarge}
use Rattle.matrix_geometry.specs.declared.matrix.Corner.{Corner}
use Rattle.matrix_geometry.specs.declared.matrix.Matrix.{Matrix}
use Rattle.matrix_geometry.specs.declared.matrix.Size.{Size}

-- THE TESTS

-- at most 10^8 units in size, and a whole number of billionths
abbrev pub is_coordinate : Scaled → Bool
is_coordinate x = nat_le (unsigned_abs x.units) (10 ^ 8 * 10 ^ x.places) && (unsigned_abs x.units * 10 ^ 9 % 10 ^ x.places == 0)

abbrev pub is_corner : Corner → Bool
is_corner corner = is_coordinate corner.x && is_coordinate corner.y

abbrev pub is_fine_enough : Fraction → Bool
is_fine_enough f = nat_le (unsigned_abs f.n) (10 ^ 20) && nat_le (unsigned_abs f.d) (10 ^ 18)

abbrev pub is_side : ℕ → Bool
is_side n = nat_lt 0 n && nat_le n 512

abbrev pub is_tile_size : Size → Bool
is_tile_size tile = is_side tile.w && is_side tile.h

abbrev pub is_count : ℕ → Bool
is_count n = nat_lt 0 n && nat_le n (2 ^ 31)

abbrev pub is_matrix_size : Size → Bool
is_matrix_size size = is_count size.w && is_count size.h

-- so many pixels of this span are at most 10^9 units
abbrev pub is_extent : Fraction → ℕ → Bool
is_extent span pixels = nat_le (pixels * unsigned_abs span.n) (10 ^ 9 * unsigned_abs span.d)

-- the matrix is within 10^9 units each way
abbrev pub is_within_extent : Fraction → Size → Size → Bool
is_within_extent span tile size = is_extent span (size.w * tile.w) && is_extent span (size.h * tile.h)

-- THE MATRIX

-- a coordinate in billionths of a unit
abbrev pub billionths_of : Scaled → ℤ
billionths_of x = int_div (x.units *ℤ pos (10 ^ 9)) (pos (10 ^ x.places))

-- none where it is too large or too fine
abbrev pub coordinate_of : Scaled → Option ℤ
coordinate_of x = if is_coordinate x then Some (billionths_of x) else None

abbrev pub matrix_of_parts : Fraction → Corner → Size → Size → Matrix
matrix_of_parts span corner tile size =
    record {
      span = span;
      left = billionths_of corner.x;
      top = billionths_of corner.y;
      tile_w = tile.w;
      tile_h = tile.h;
      cols = size.w;
      rows = size.h;
    }

-- the refusals in their order; there is no span where a number that makes it is 0 or less
abbrev pub made_of : Option Fraction → Corner → Size → Size → Result Matrix GridFault
made_of None corner tile size =
    if not (is_corner corner) then Err CoordinateTooLarge else
    Err ZeroSpan
made_of (Some span) corner tile size =
    if not (is_corner corner) then Err CoordinateTooLarge else
    (if not (is_fine_enough span) then Err NumberTooFine else
    (if not (is_tile_size tile) then Err TileSize else
    (if not (is_matrix_size size) then Err TooManyTiles else
    (if not (is_within_extent span tile size) then Err ExtentTooLarge else
    Ok (matrix_of_parts span corner tile size)))))

-- none where it is 0 or less
abbrev pub span_if_positive : Fraction → Option Fraction
span_if_positive span = if is_positive span.n then Some span else None

unfoldable pub made_of_span : Fraction → Corner → Size → Size → Result Matrix GridFault
made_of_span span corner tile size = made_of (span_if_positive span) corner tile size

-- a decimal number as a fraction
abbrev pub fraction_of : Scaled → Fraction
fraction_of x = record { n = x.units; d = pos (10 ^ x.places) }

-- the standard pixel, 0.28 mm, in meters
abbrev pub pixel : Fraction
pixel = record { n = pos 28; d = pos (10 ^ 5) }

-- the scale denominator times the standard pixel, by the meters in a unit (OGC 07-057r7, section 6.1)
unfoldable pub span_of_scale : Scaled → Scaled → Fraction
span_of_scale scale meters = lowest_terms ((fraction_of scale *ℚ pixel) /ℚ fraction_of meters)

-- none where a number is 0 or less
abbrev pub span_given : Scaled → Scaled → Option Fraction
span_given scale meters =
    if is_positive scale.units && is_positive meters.units then Some (span_of_scale scale meters) else None

unfoldable pub made_of_scale : Scaled → Scaled → Corner → Size → Size → Result Matrix GridFault
made_of_scale scale meters corner tile size = made_of (span_given scale meters) corner tile size
