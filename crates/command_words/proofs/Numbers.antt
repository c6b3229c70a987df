-- The number of a drill is small.
use Rattle.std.proofs.Common.{◌≡◌, ℕ, ◌<◌, ◌≤◌, ◌^◌, true, List, length, arith}
use Rattle.std.specs.Str.Parse.{digits_value}
use Rattle.std.proofs.lemmas.Int.Digits.{digits_value-lt}
use Rattle.std.proofs.Math.Nat.{pow-le-pow_right}
use Rattle.wmts_kvp.specs.Rows.{is_number}
use Rattle.wmts_kvp.proofs.Numbers.{digits_of_number}

-- 9 digits write a number below 10 ^ 9
pub below_limit : (digits : List ℕ) → is_number digits ≡ true → length digits ≤ 9 → digits_value 10 digits < 1000000000
below_limit digits is few =
    let value = digits_value-lt 10 digits (digits_of_number digits is) in
    let power : 10 ^ length digits ≤ 10 ^ 9 = pow-le-pow_right (omega arith) few in
    omega (arith, value, power)
