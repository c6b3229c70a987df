-- A plain number is a value that clap takes, and it is ASCII.
use Rattle.std.proofs.Common.{◌≡◌, ◌==◌, ℕ, zero, suc, ◌<◌, ◌≤◌, ◌^◌, Bool, true, false, List, [], ◌∷◌, Some, None, refl, ap, subst, arith}
use Rattle.std.specs.Prelude.{◌&&◌, pos, nat_le, slice_index, length, unwrap_or, if◌then◌else◌}
use Rattle.std.proofs.lemmas.Int.{ints}
use Rattle.std.specs.Str.{IsAscii}
use Rattle.std.specs.Str.Parse.{AllDigits, digits_value, without_leading_plus}
use Rattle.std.proofs.lemmas.Bool.{ltb-true, leb-true, ne_eqb, and_parts}
use Rattle.std.proofs.lemmas.Str.Parse.{digit_from_value}
use Rattle.clap.specs.Lexer.{without_minus}
use Rattle.clap.specs.Values.{IsSignedIn}
use Rattle.clap.proofs.ValueTestLemmas.{Accepts-accepts}
use Rattle.wmts_kvp.proofs.Numbers.{digits_of_number}
use Rattle.command_words.specs.ServeOptions.{numbers_to}
use Rattle.command_words.specs.ServeWords.{is_plain_number, plain_number}
use Rattle.command_words.proofs.ServeWalk.{IsValue}

-- the text is a plain number of 1 up to the most
pub record IsPlainNumber (most : ℕ) (text : List ℕ) (n : ℕ) : Type 0 where
  pub some : 0 < length text
  pub digits : AllDigits 10 text
  pub value : digits_value 10 text ≡ n
  pub at_least : 1 ≤ n
  pub at_most : n ≤ most

pub number_parts : (most : ℕ) (text : List ℕ) (n : ℕ) → plain_number most text ≡ Some n → IsPlainNumber most text n
number_parts most text n is = go (is_plain_number text && (nat_le 1 (digits_value 10 text) && nat_le (digits_value 10 text) most)) refl is
  where
    go : (b : Bool) → (is_plain_number text && (nat_le 1 (digits_value 10 text) && nat_le (digits_value 10 text) most)) ≡ b
        → (if b then Some (digits_value 10 text) else None) ≡ Some n → IsPlainNumber most text n
    go false test e = cc
    go true test e =
        let parts = and_parts _ _ test in
        let form = and_parts _ _ parts.0 in
        let range = and_parts _ _ parts.1 in
        let value : digits_value 10 text ≡ n = ap (λ o. unwrap_or o n) e in
        record {
          some = ltb-true _ _ (and_parts _ _ form.0).0;
          digits = digits_of_number text form.0;
          value = value;
          at_least = subst (λ v. 1 ≤ v) value (leb-true _ _ range.0);
          at_most = subst (λ v. v ≤ most) value (leb-true _ _ range.1);
        }

-- a first digit is no sign
no_sign : (text : List ℕ) → 0 < length text → AllDigits 10 text → (sign : ℕ) → sign < 48 → (slice_index text 0 == sign) ≡ false
no_sign [] some digits sign low = absurd (omega arith)
no_sign (d ∷ ds) some digits sign low = ne_eqb d sign (λ e. omega (arith, digit_from_value d digits.0))

-- the text has no sign to take off
pub signless : (text : List ℕ) → 0 < length text → AllDigits 10 text → (without_minus text ≡ text) × (without_leading_plus text ≡ text)
signless [] some digits = absurd (omega arith)
signless (d ∷ ds) some digits = (
  rw (no_sign (d ∷ ds) some digits 45 (omega arith)) refl,
  rw (no_sign (d ∷ ds) some digits 43 (omega arith)) refl,
)

in_range : (most : ℕ) (text : List ℕ) (n : ℕ) → most < 2 ^ 63 → IsPlainNumber most text n → IsSignedIn (pos 1) (pos most) text
in_range most text n small is =
    let minus = no_sign text is.some is.digits 45 (omega arith) in
    let plus = no_sign text is.some is.digits 43 (omega arith) in
    rw (minus, plus, is.value) ((is.some, is.digits), record { sfits = omega (arith, is.at_most) }, omega (arith, ints, is.at_least), omega (arith, ints, is.at_most))

pub plain_value : (most : ℕ) (text : List ℕ) (n : ℕ) → most < 2 ^ 63 → IsPlainNumber most text n → IsValue most text
plain_value most [] n small is = absurd (omega (arith, is.some))
plain_value most (d ∷ ds) n small is =
    let minus = no_sign (d ∷ ds) is.some is.digits 45 (omega arith) in
    record {
      no_end = rw minus refl;
      no_long = rw minus refl;
      no_short = rw minus refl;
      passes = Accepts-accepts false (numbers_to most) (d ∷ ds) (in_range most (d ∷ ds) n small is);
    }

pub ascii_digits : (text : List ℕ) → AllDigits 10 text → IsAscii text
ascii_digits [] digits i = omega arith
ascii_digits (d ∷ ds) digits zero = omega (arith, digit_from_value d digits.0)
ascii_digits (d ∷ ds) digits (suc i) = ascii_digits ds digits.1 i
