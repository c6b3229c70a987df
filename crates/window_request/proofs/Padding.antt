-- digits of a number, one after the other
use Rattle.std.proofs.Common.{◌≡◌, ℕ, ◌+◌, ◌-◌, ◌*◌, ◌/◌, ◌%◌, ◌<◌, ◌≤◌, ◌^◌, List, [], ◌∷◌, ◌++◌, length, refl, subst, sym, ap, ◌∙◌, arith, append_assoc, length-append, Bool, pow-add, suc}
use Rattle.std.specs.Prelude.{decimal, if◌then◌else◌}
use Rattle.std.proofs.lemmas.Fmt.{decimal_is_IsNumeral}
use Rattle.std.specs.Char.{digit_value}
use Rattle.std.specs.Str.Parse.{digits_value, digits_value_after}
use Rattle.std.proofs.Math.Nat.{div-add-mod, div-lt_iff_lt-mul, div-le_of_le-mul, mod-lt, pow-suc}
use Rattle.std.proofs.lemmas.Int.Digits.{digits_value_push, digits_push}
use Rattle.std.proofs.lemmas.Str.{digit_value_digit}
use Rattle.window_request.specs.Decimals.{PadsSoFar, Pads, Writes}
use Rattle.window_request.proofs.Tens.{ten_more}

pub digit_is : (q : ℕ) → q < 10 → digit_value (48 + q) ≡ q
digit_is q h = omega (arith, digit_value_digit (48 + q) (omega arith, omega arith))

pub first_small : (rest unit : ℕ) → 0 < unit → rest < 10 * unit → rest / unit < 10
first_small rest unit some h = (div-lt_iff_lt-mul some).1 h

more_value : (v q unit rest number : ℕ) → q ≡ rest / unit → v * (10 * unit) + rest ≡ number → (v * 10 + q) * unit + rest % unit ≡ number
more_value v q unit rest number e h = grind (arith, div-add-mod rest unit)

pub pads_more : (before : List ℕ) (number k unit rest : ℕ) (after : List ℕ) → 0 < unit → rest < 10 * unit → PadsSoFar before number k (10 * unit) rest after → PadsSoFar before number (k + 1) unit (rest % unit) (after ++ ((48 + rest / unit) ∷ []))
pads_more before number k unit rest after some small h =
    let q = first_small rest unit some small in
    let is : digit_value (48 + rest / unit) ≡ rest / unit = digit_is (rest / unit) q in
    record {
      part = h.part ++ ((48 + rest / unit) ∷ []);
      is = ap (λ (s : List ℕ). s ++ ((48 + rest / unit) ∷ [])) h.is ∙ append_assoc before h.part ((48 + rest / unit) ∷ []);
      digits = digits_push 10 h.part (48 + rest / unit) h.digits (omega (arith, is, q));
      count_is = omega (arith, length-append h.part ((48 + rest / unit) ∷ []), h.count_is);
      value = ap (λ (v : ℕ). v * unit + rest % unit) (digits_value_push 10 h.part (48 + rest / unit)) ∙ more_value (digits_value 10 h.part) (digit_value (48 + rest / unit)) unit rest number is h.value;
    }

count_back : (count i : ℕ) → i < count → count - i ≡ count - 1 - i + 1
count_back count i h = omega arith

pub ten_back : (count i : ℕ) → i < count → 10 ^ (count - i) ≡ 10 * 10 ^ (count - 1 - i)
ten_back count i h = ap (λ (k : ℕ). 10 ^ k) (count_back count i h) ∙ ten_more (count - 1 - i)

pub count_on : (count i : ℕ) → count - 1 - i ≡ count - (i + 1)
count_on count i = omega arith

shift : (n d k t u : ℕ) → u ≡ (0 * 10 + d) * 10 ^ k + t → (n * 10 + d) * 10 ^ k + t ≡ n * 10 ^ suc k + u
shift n d k t u h = omega (arith, h, ap (λ (p : ℕ). n * p) (pow-suc 10 k))

-- digits that follow those of a number
pub value_after : (n : ℕ) (xs : List ℕ) → digits_value_after 10 n xs ≡ n * 10 ^ length xs + digits_value 10 xs
value_after n [] = omega arith
value_after n (x ∷ xs) =
    let more : digits_value_after 10 (n * 10 + digit_value x) xs ≡ (n * 10 + digit_value x) * 10 ^ length xs + digits_value 10 xs = value_after (n * 10 + digit_value x) xs in
    let less : digits_value_after 10 (0 * 10 + digit_value x) xs ≡ (0 * 10 + digit_value x) * 10 ^ length xs + digits_value 10 xs = value_after (0 * 10 + digit_value x) xs in
    more ∙ shift n (digit_value x) (length xs) (digits_value 10 xs) (digits_value 10 (x ∷ xs)) less

pub after-append : (n : ℕ) (xs ys : List ℕ) → digits_value_after 10 n (xs ++ ys) ≡ digits_value_after 10 (digits_value_after 10 n xs) ys
after-append n [] ys = refl
after-append n (x ∷ xs) ys = after-append (n * 10 + digit_value x) xs ys

-- a sign, a whole number, a point and so many digits
pub writes_all : (negative : Bool) (units places whole part : ℕ) (sign before all : List ℕ) → whole < 2 ^ 64 → sign ≡ (if negative then 45 ∷ [] else []) → before ≡ (sign ++ decimal whole) ++ (46 ∷ []) → Pads before part places all → whole * 10 ^ places + part ≡ units → Writes negative units places all
writes_all negative units places whole part sign before all small s b h v =
    let numeral = decimal_is_IsNumeral whole small in
    record {
      whole = decimal whole;
      part = h.part;
      is = h.is ∙ ap (λ (l : List ℕ). l ++ h.part) b ∙ append_assoc (sign ++ decimal whole) (46 ∷ []) h.part ∙ ap (λ (l : List ℕ). l ++ decimal whole ++ 46 ∷ h.part) s;
      some = numeral.0.0;
      whole_digits = numeral.0.1;
      part_digits = h.digits;
      count = h.count_is;
      value = after-append 0 (decimal whole) h.part ∙ ap (λ (n : ℕ). digits_value_after 10 n h.part) numeral.1 ∙ value_after whole h.part ∙ ap (λ (k : ℕ). whole * 10 ^ k + digits_value 10 h.part) h.count_is ∙ ap (λ (k : ℕ). whole * 10 ^ places + k) h.value ∙ v;
    }

-- the whole part is small
pub whole_small : (units places unit : ℕ) → unit ≡ 10 ^ places → 0 < unit → units ≤ 10 ^ (18 + places) → units / unit < 2 ^ 64
whole_small units places unit e some h =
    let whole : units ≤ unit * 10 ^ 18 = omega (arith, h, pow-add 10 18 places, e) in
    omega (arith, div-le_of_le-mul unit {m = units} {n = 10 ^ 18} whole)

pub unit_is : (count i unit : ℕ) → unit ≡ 10 ^ (count - 1 - i) → unit ≡ 10 ^ (count - (i + 1))
unit_is count i unit e = e ∙ ap (λ (k : ℕ). 10 ^ k) (count_on count i)

pub ten_units : (count i unit : ℕ) → i < count → unit ≡ 10 ^ (count - 1 - i) → 10 ^ (count - i) ≡ 10 * unit
ten_units count i unit h e = ten_back count i h ∙ ap (λ (k : ℕ). 10 * k) (sym e)

pub rest_small : (count i unit rest : ℕ) → 0 < unit → unit ≡ 10 ^ (count - 1 - i) → rest % unit < 10 ^ (count - (i + 1))
rest_small count i unit rest some e = let P : ℕ → Type 0 = λ k. rest % unit < k in subst P (unit_is count i unit e) (mod-lt rest some)

pub pads_step : (before : List ℕ) (number count i unit rest q : ℕ) (now after : List ℕ) → i < count → unit ≡ 10 ^ (count - 1 - i) → 0 < unit → rest < 10 ^ (count - i) → PadsSoFar before number i (10 ^ (count - i)) rest now → q ≡ 48 + rest / unit → after ≡ now ++ (q ∷ []) → PadsSoFar before number (i + 1) (10 ^ (count - (i + 1))) (rest % unit) after
pads_step before number count i unit rest q now after h e some small p is all =
    let P : ℕ → Type 0 = λ k. PadsSoFar before number i k rest now in
    let Q : List ℕ → Type 0 = λ l. PadsSoFar before number (i + 1) unit (rest % unit) l in
    let R : ℕ → Type 0 = λ k. PadsSoFar before number (i + 1) k (rest % unit) after in
    let ten = ten_units count i unit h e in
    let less : rest < 10 * unit = omega (arith, ten, small) in
    subst R (unit_is count i unit e)
    (subst Q (ap (λ (b : ℕ). now ++ (b ∷ [])) (sym is) ∙ sym all)
    (pads_more before number i unit rest now some less (subst P ten p)))
