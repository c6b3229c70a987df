-- A name is UTF-8.
use Rattle.std.proofs.Common.{◌≡◌, ℕ, zero, suc, ◌<◌, true, List, [], ◌∷◌, length, arith}
use Rattle.std.specs.Prelude.{IsTrue, nat_lt, slice_index}
use Rattle.std.specs.List.{list_all}
use Rattle.std.specs.Str.{IsUtf8}
use Rattle.std.proofs.lemmas.Bool.{and_parts}
use Rattle.std.proofs.lemmas.Bool.Decides.{nat_tests}
use Rattle.std.proofs.lemmas.Str.{IsUtf8-from_ascii}
use Rattle.catalog.specs.Names.{is_name, is_name_byte}

ascii_byte : (b : ℕ) → is_name_byte b ≡ true → b < 128
ascii_byte b e = grind (arith, nat_tests)

ascii_at : (text : List ℕ) → list_all is_name_byte text ≡ true → (i : ℕ) → slice_index text i < 128
ascii_at [] e i = omega arith
ascii_at (b ∷ text) e zero = ascii_byte b (and_parts (is_name_byte b) (list_all is_name_byte text) e).0
ascii_at (b ∷ text) e (suc i) = ascii_at text (and_parts (is_name_byte b) (list_all is_name_byte text) e).1 i

pub utf8_name : (text : List ℕ) → IsTrue (is_name text) → IsUtf8 text
unfolding is_name
utf8_name text is = IsUtf8-from_ascii text (ascii_at text (and_parts (nat_lt 0 (length text)) (list_all is_name_byte text) is).1)
