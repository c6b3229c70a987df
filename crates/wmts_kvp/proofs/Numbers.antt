-- Numbers that digits spell, up to a greatest one.
use Rattle.std.proofs.Common.{◌≡◌, ℕ, suc, ◌+◌, ◌-◌, ◌*◌, ◌^◌, ◌<◌, ◌≤◌, min, true, List, [], ◌∷◌, length, take, drop, get_or, subst, arith, add-one}
use Rattle.std.specs.List.{list_all}
use Rattle.std.specs.Char.{digit_value, is_ascii_digit}
use Rattle.std.specs.Str.Parse.{AllDigits, digits_value}
use Rattle.std.proofs.lemmas.Int.Digits.{digits_value_more}
use Rattle.std.proofs.lemmas.Str.{digit_value_digit}
use Rattle.std.proofs.lemmas.Str.Parse.{digit_from_value}
use Rattle.std.proofs.Math.Seq.{drop-cons}
use Rattle.std.proofs.lemmas.Bool.{and_parts}
use Rattle.std.proofs.lemmas.Bool.Decides.{nat_tests}
use Rattle.wmts_kvp.specs.Rows.{is_number}

below_ten : (b : ℕ) → is_ascii_digit b ≡ true → digit_value b < 10
below_ten b is = let r : (48 ≤ b) × (b ≤ 57) = grind (arith, nat_tests) in omega (arith, digit_value_digit b (r.0, r.1))

all_digits : (ds : List ℕ) → list_all is_ascii_digit ds ≡ true → AllDigits 10 ds
all_digits [] is = tt
all_digits (b ∷ ds) is =
    let parts = and_parts (is_ascii_digit b) (list_all is_ascii_digit ds) is in
    (below_ten b parts.0, all_digits ds parts.1)

-- the text of a number is digits
pub digits_of_number : (ds : List ℕ) → is_number ds ≡ true → AllDigits 10 ds
digits_of_number ds is = all_digits ds (and_parts _ (list_all is_ascii_digit ds) is).1

-- one digit more
pub capped_digit : (ds : List ℕ) (i : ℕ) → i < length ds → AllDigits 10 (drop i ds) → min (min (digits_value 10 (take i ds)) (2 ^ 32) * 10 + (get_or ds i 0 - 48)) (2 ^ 32) ≡ min (digits_value 10 (take (i + 1) ds)) (2 ^ 32)
capped_digit ds i l all =
    let P : List ℕ → Type 0 = AllDigits 10 in
    let here : P (get_or ds i 0 ∷ drop (suc i) ds) = subst P (drop-cons ds i 0 l) all in
    let range = digit_from_value (get_or ds i 0) here.0 in
    let value = digit_value_digit (get_or ds i 0) range in
    let more = digits_value_more 10 ds i l in
    omega (arith, value, more, range.0)

pub digits_left : (ds : List ℕ) (i : ℕ) → i < length ds → AllDigits 10 (drop i ds) → AllDigits 10 (drop (i + 1) ds)
digits_left ds i l all =
    let P : List ℕ → Type 0 = AllDigits 10 in
    let here : P (get_or ds i 0 ∷ drop (suc i) ds) = subst P (drop-cons ds i 0 l) all in
    rw add-one here.1

-- a digit's code
pub digit_code : (ds : List ℕ) (i : ℕ) → i < length ds → AllDigits 10 (drop i ds) → (48 ≤ get_or ds i 0) × (get_or ds i 0 ≤ 57)
digit_code ds i l all =
    let P : List ℕ → Type 0 = AllDigits 10 in
    let here : P (get_or ds i 0 ∷ drop (suc i) ds) = subst P (drop-cons ds i 0 l) all in
    digit_from_value (get_or ds i 0) here.0
