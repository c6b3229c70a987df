-- where there is no fraction
use Rattle.std.proofs.Common.{◌≡◌, Bool, false, true, ℤ, pos, negsuc, ◌<ℤ◌, Some, None, ◌&&◌, ◌-◌, ◌^◌, of_z, arith, refl, ap}
use Rattle.std.specs.Prelude.{FitsSigned, int_lt, if◌then◌else◌}
use Rattle.std.specs.Int.{is_positive, w128}
use Rattle.std.proofs.lemmas.Int.{ints}
use Rattle.exact_ratio.specs.Lowest.{least_i128, lowest, lowest_of}

pub none_of_denominator : (n d : ℤ) → d <ℤ pos 1 → None ≡ lowest_of n d
unfolding lowest_of
none_of_denominator n d h = let no : int_lt (pos 0) d ≡ false = grind (arith, ints) in rw no refl

pub none_of_least : (n d : ℤ) → n ≡ least_i128 → None ≡ lowest_of n d
unfolding lowest_of
none_of_least n d h = rw h (either (is_positive d)) where
  either : (b : Bool) → None ≡ (if b && int_lt least_i128 least_i128 then Some (lowest least_i128 d) else None)
  either true = refl
  either false = refl

pub some_lowest : (n d : ℤ) → pos 0 <ℤ d → least_i128 <ℤ n → Some (lowest n d) ≡ lowest_of n d
unfolding lowest_of
some_lowest n d h k =
    let positive : int_lt (pos 0) d ≡ true = grind (arith, ints) in
    let above : int_lt least_i128 n ≡ true = grind (arith, ints) in
    rw (positive, above) refl

pub is_least : (n : ℤ) → FitsSigned w128 n → of_z w128 n ≡ 2 ^ 127 → n ≡ least_i128
is_least (pos n) fits h = let small = fits.sfits in absurd (omega arith)
is_least (negsuc n) fits h = let small = fits.sfits in let e : n ≡ 2 ^ 127 - 1 = omega arith in ap negsuc e

pub is_above_least : (n : ℤ) → FitsSigned w128 n → (of_z w128 n ≡ 2 ^ 127 → ⊥) → least_i128 <ℤ n
is_above_least (pos n) fits h = omega (arith, ints)
is_above_least (negsuc n) fits h =
    let small = fits.sfits in
    let apart : n ≡ 2 ^ 127 - 1 → ⊥ = λ e. h (omega arith) in
    omega (arith, ints)
