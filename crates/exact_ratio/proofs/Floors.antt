-- the floor of a fraction whose denominator is positive
use Rattle.std.proofs.Common.{zero, suc, ℤ, pos, negsuc, ◌≤ℤ◌, arith}
use Rattle.std.specs.Int.{int_div_euclid}
use Rattle.std.proofs.lemmas.Int.{ints}
use Rattle.exact_ratio.specs.Fractions.{IsFloor}

pub floor_is : (n d : ℤ) → pos 1 ≤ℤ d → IsFloor n d (int_div_euclid n d)
floor_is (pos a) (pos zero) h = absurd (omega (arith, ints))
floor_is (pos a) (pos (suc b)) h = record { at_most = grind (arith, ints); next_above = grind (arith, ints) }
floor_is (negsuc a) (pos zero) h = absurd (omega (arith, ints))
floor_is (negsuc a) (pos (suc b)) h = record { at_most = grind (arith, ints); next_above = grind (arith, ints) }
floor_is (pos a) (negsuc b) h = absurd (omega (arith, ints))
floor_is (negsuc a) (negsuc b) h = absurd (omega (arith, ints))
