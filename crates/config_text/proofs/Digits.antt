-- A list of digits has digits at its places.
use Rattle.std.proofs.Common.{◌≡◌, ℕ, zero, suc, ◌<◌, ◌≤◌, true, List, [], ◌∷◌, length, get_or, arith}
use Rattle.std.specs.List.{list_all}
use Rattle.std.specs.Char.{is_ascii_digit}
use Rattle.std.proofs.lemmas.Bool.{and_parts}
use Rattle.std.proofs.lemmas.Bool.Decides.{nat_tests}

digit_worth : (b : ℕ) → is_ascii_digit b ≡ true → (48 ≤ b) × (b ≤ 57)
digit_worth b e = grind (arith, nat_tests)

pub digit_at : (xs : List ℕ) → list_all is_ascii_digit xs ≡ true → (i : ℕ) → i < length xs → (48 ≤ get_or xs i 0) × (get_or xs i 0 ≤ 57)
digit_at [] e i h = absurd (omega arith)
digit_at (x ∷ xs) e zero h = digit_worth x (and_parts (is_ascii_digit x) (list_all is_ascii_digit xs) e).0
digit_at (x ∷ xs) e (suc i) h = digit_at xs (and_parts (is_ascii_digit x) (list_all is_ascii_digit xs) e).1 i (omega arith)
