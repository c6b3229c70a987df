-- One step of the escaping of a value.
use Rattle.std.proofs.Common.{◌≡◌, ℕ, ◌-◌, ◌<◌, ◌≤◌, true, false, List, [], ◌∷◌, ◌++◌, length, get_or, take, drop, refl, sym, ap, ◌∙◌, append_assoc, arith}
use Rattle.std.proofs.lemmas.List.{append-nil, take_all, length-drop}
use Rattle.exception_report.specs.Report.{escaped_byte, begins_with_noncharacter, escaped}

-- a byte that begins no noncharacter is escaped by itself
byte_first : (a : ℕ) (others : List ℕ) → begins_with_noncharacter (a ∷ others) ≡ false → escaped (a ∷ others) ≡ escaped_byte a ++ escaped others
unfolding escaped
byte_first a [] plain = sym (append-nil (escaped_byte a))
byte_first a (b ∷ []) plain = refl
byte_first a (b ∷ c ∷ rest) plain = rw plain

-- a noncharacter is escaped as a whole
noncharacter_first : (value : List ℕ) → begins_with_noncharacter value ≡ true → escaped value ≡ 63 ∷ escaped (drop 3 value)
unfolding escaped
noncharacter_first [] is = cc
noncharacter_first (a ∷ []) is = cc
noncharacter_first (a ∷ b ∷ []) is = cc
noncharacter_first (a ∷ b ∷ c ∷ rest) is = rw is

-- what was written, with a piece more, and the rest make up the whole as before
with_piece : (text piece : List ℕ) (rest behind whole : List ℕ) → text ++ escaped rest ≡ whole → escaped rest ≡ piece ++ escaped behind → (text ++ piece) ++ escaped behind ≡ whole
with_piece text piece rest behind whole so_far step = append_assoc text piece (escaped behind) ∙ ap (λ s. text ++ s) (sym step) ∙ so_far

byte_step : (rest : List ℕ) → 1 ≤ length rest → begins_with_noncharacter rest ≡ false → escaped rest ≡ escaped_byte (get_or rest 0 0) ++ escaped (drop 1 rest)
byte_step [] some plain = absurd (omega arith)
byte_step (a ∷ others) some plain = byte_first a others plain

-- after a byte
pub with_byte : (text rest whole : List ℕ) (n : ℕ) → length rest - 1 ≤ n → 1 ≤ length rest → begins_with_noncharacter rest ≡ false → text ++ escaped rest ≡ whole → (text ++ escaped_byte (get_or rest 0 0)) ++ escaped (take n (drop 1 rest)) ≡ whole
with_byte text rest whole n enough some plain so_far =
    let l : length (drop 1 rest) ≤ n = omega (arith, length-drop 1 rest) in
    rw (take_all n (drop 1 rest) l) (with_piece text (escaped_byte (get_or rest 0 0)) rest (drop 1 rest) whole so_far (byte_step rest some plain))

-- after a noncharacter
pub with_noncharacter : (text rest whole : List ℕ) (n : ℕ) → length rest - 3 ≤ n → begins_with_noncharacter rest ≡ true → text ++ escaped rest ≡ whole → (text ++ 63 ∷ []) ++ escaped (take n (drop 3 rest)) ≡ whole
with_noncharacter text rest whole n enough is so_far =
    let l : length (drop 3 rest) ≤ n = omega (arith, length-drop 3 rest) in
    rw (take_all n (drop 3 rest) l) (with_piece text (63 ∷ []) rest (drop 3 rest) whole so_far (noncharacter_first rest is))

-- at the end
pub at_the_end : (text rest whole : List ℕ) → length rest < 1 → text ++ escaped rest ≡ whole → text ≡ whole
unfolding escaped
at_the_end text [] whole none so_far = sym (append-nil text) ∙ so_far
at_the_end text (a ∷ rest) whole none so_far = absurd (omega arith)
