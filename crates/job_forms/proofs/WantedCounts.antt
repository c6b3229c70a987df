-- How many numbers are wanted.
use Rattle.std.proofs.Common.{ℕ, ◌≤◌, length, Option, Some, None, arith}
use Rattle.job_forms.specs.Themes.{wanted_of}
use Rattle.job_forms.proofs.Pieces.{range_length}

pub wanted_most : (count most : ℕ) (only : Option ℕ) → count ≤ most → 1 ≤ most → length (wanted_of count only) ≤ most
wanted_most count most None h k = let e = range_length 0 count in omega (arith, e)
wanted_most count most (Some number) h k = k

pub wanted_least : (count : ℕ) (only : Option ℕ) → 1 ≤ count → 1 ≤ length (wanted_of count only)
wanted_least count None h = let e = range_length 0 count in omega (arith, e)
wanted_least count (Some number) h = omega arith
