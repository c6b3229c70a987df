-- Numbers that up to 18 digits spell.
use Rattle.std.proofs.Common.{ℕ, zero, suc, ◌≡◌, ◌+◌, ◌*◌, ◌-◌, ◌≤◌, ◌<◌, ◌^◌, List, [], ◌∷◌, length, take, drop, get_or, subst, arith}
use Rattle.std.specs.Str.Parse.{AllDigits, digits_value}
use Rattle.std.proofs.Math.Nat.{pow-le-pow_right}
use Rattle.std.proofs.Math.Seq.{drop-cons}
use Rattle.std.proofs.lemmas.Int.Digits.{digits_value-lt, digits_value_more}
use Rattle.std.proofs.lemmas.List.{length-take}
use Rattle.std.proofs.lemmas.Str.{digit_value_digit}
use Rattle.std.proofs.lemmas.Str.Parse.{digit_from_value}

-- one digit more
pub next_digit : (ds : List ℕ) (i : ℕ) → i < length ds → AllDigits 10 (drop i ds) → digits_value 10 (take i ds) * 10 + (get_or ds i 0 - 48) ≡ digits_value 10 (take (i + 1) ds)
next_digit ds i l all =
    let P : List ℕ → Type 0 = AllDigits 10 in
    let here : P (get_or ds i 0 ∷ drop (suc i) ds) = subst P (drop-cons ds i 0 l) all in
    let range = digit_from_value (get_or ds i 0) here.0 in
    let value = digit_value_digit (get_or ds i 0) range in
    let more = digits_value_more 10 ds i l in
    omega (arith, value, more, range.0)

taken : (ds : List ℕ) (i : ℕ) → AllDigits 10 ds → AllDigits 10 (take i ds)
taken ds zero all = tt
taken [] (suc i) all = tt
taken (d ∷ ds) (suc i) all = (all.0, taken ds i all.1)

-- ten times what the digits before the last of 18 spell fits, and so does what all of them do
pub short_value : (ds : List ℕ) (i : ℕ) → i < length ds → length ds ≤ 18 → AllDigits 10 ds → digits_value 10 (take i ds) * 10 + 10 < 2 ^ 64
short_value ds i l short all =
    let less = digits_value-lt 10 (take i ds) (taken ds i all) in
    let few : length (take i ds) ≤ 17 = omega (arith, length-take i ds) in
    let most = pow-le-pow_right {n = 10} (omega arith) few in
    omega (arith, less, most)
