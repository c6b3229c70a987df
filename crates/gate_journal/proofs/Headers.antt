-- What a header says once it is written, and which half is in force.
use Rattle.std.proofs.Common.{◌≡◌, ◌≢◌, ℕ, zero, suc, ◌+◌, ◌%◌, ◌^◌, ◌<◌, List, [], ◌∷◌, ◌++◌, replicate, length, Bool, true, false, ◌&&◌, ◌||◌, if◌then◌else◌, ◌==◌, nat_eq, Some, None, refl, sym, ◌∙◌, ap, arith, length-append}
use Rattle.std.proofs.lemmas.Nat.{from_be_bytes-to_be_bytes_8}
use Rattle.std.proofs.lemmas.Bool.Decides.{nat_tests}
use Rattle.std.specs.Cmp.Lexicographic.{pointwise}
use Rattle.std.specs.Int.{w64, to_be_bytes, from_be_bytes}
use Rattle.disk_model.specs.Content.{Content, byte_at, bytes_at}
use Rattle.disk_model.proofs.Reading.{length-bytes_at}
use Rattle.gate_journal.specs.declared.half.Half.{Half}
use Rattle.gate_journal.specs.declared.half.Half.TheVariants.{First, Second}
use Rattle.gate_journal.specs.Layout.{header_at, other_half}
use Rattle.gate_journal.specs.Opened.{counts, version_at, names, generation_at, half_of, half_in_force, magic}
use Rattle.gate_journal.proofs.Gates.{not_one}

pub split_bytes : (c : Content) (at m n : ℕ) → bytes_at c at (m + n) ≡ bytes_at c at m ++ bytes_at c (at + m) n
split_bytes c at zero n = let e : zero + n ≡ n = omega arith in let d : at ≡ at + zero = omega arith in ap (bytes_at c at) e ∙ ap (λ (i : ℕ). bytes_at c i n) d
split_bytes c at (suc m) n =
    let e : suc m + n ≡ suc (m + n) = omega arith in
    let d : at + 1 + m ≡ at + suc m = omega arith in
    ap (bytes_at c at) e ∙ ap (λ (l : List ℕ). byte_at c at ∷ l) (split_bytes c (at + 1) m n ∙ ap (λ (i : ℕ). bytes_at c (at + 1) m ++ bytes_at c i n) d)

cancel : (xs us ys vs : List ℕ) → length xs ≡ length us → xs ++ ys ≡ us ++ vs → (xs ≡ us) × (ys ≡ vs)
cancel [] [] ys vs size same = (refl, same)
cancel [] (u ∷ us) ys vs size same = absurd (omega arith)
cancel (x ∷ xs) [] ys vs size same = absurd (omega arith)
cancel (x ∷ xs) (u ∷ us) ys vs size same =
    let first : x ≡ u = cc in
    let rest : xs ++ ys ≡ us ++ vs = cc in
    let both = cancel xs us ys vs (omega arith) rest in
    (λ k. first k ∷ both.0 k, both.1)

-- a range is one list and then another
pub two_parts : (c : Content) (at m n : ℕ) (xs ys : List ℕ) → length xs ≡ m → bytes_at c at (m + n) ≡ xs ++ ys → (bytes_at c at m ≡ xs) × (bytes_at c (at + m) n ≡ ys)
two_parts c at m n xs ys size same = cancel (bytes_at c at m) xs (bytes_at c (at + m) n) ys (length-bytes_at c at m ∙ sym size) (sym (split_bytes c at m n) ∙ same)

pub record IsHeader (at generation : ℕ) (digest : List ℕ) (c : Content) : Type 0 where
  pub begins : bytes_at c at 8 ≡ magic 2
  pub numbered : bytes_at c (at + 8) 8 ≡ to_be_bytes w64 generation
  pub digests : bytes_at c (at + 16) 32 ≡ digest
  pub ends : bytes_at c (at + 48) 15 ≡ replicate 15 0

pub is_header : (at generation : ℕ) (digest : List ℕ) (c : Content) → length digest ≡ 32 → bytes_at c at 63 ≡ magic 2 ++ to_be_bytes w64 generation ++ digest ++ replicate 15 0 → IsHeader at generation digest c
is_header at generation digest c size same =
    let front : length (magic 2 ++ to_be_bytes w64 generation) ≡ 16 = refl in
    let one = two_parts c at 48 15 (magic 2 ++ to_be_bytes w64 generation ++ digest) (replicate 15 0) (length-append (magic 2 ++ to_be_bytes w64 generation) digest ∙ omega (arith, front, size)) same in
    let two = two_parts c at 16 32 (magic 2 ++ to_be_bytes w64 generation) digest front one.0 in
    let three = two_parts c at 8 8 (magic 2) (to_be_bytes w64 generation) refl two.0 in
    record { begins = three.0; numbered = three.1; digests = two.1; ends = one.1 }

pub header_counts : (at generation : ℕ) (digest : List ℕ) (c : Content) → IsHeader at generation digest c → byte_at c (at + 63) ≡ 1 → counts c at ≡ true
unfolding counts
header_counts at generation digest c header gate =
    λ k. (gate k == 1) && (names (header.begins k) 1 || names (header.begins k) 2) && pointwise nat_eq (header.ends k) (replicate 15 0)

pub header_version : (at generation : ℕ) (digest : List ℕ) (c : Content) → IsHeader at generation digest c → version_at c at ≡ 2
unfolding version_at
header_version at generation digest c header = λ k. if names (header.begins k) 1 then 1 else 2

pub header_generation : (at generation : ℕ) (digest : List ℕ) (c : Content) → generation < 2 ^ 64 → IsHeader at generation digest c → generation_at c at ≡ generation
unfolding generation_at
header_generation at generation digest c fits header = ap (from_be_bytes w64) header.numbered ∙ from_be_bytes-to_be_bytes_8 generation fits

-- a header behind a closed gate doesn't count
pub shut_counts : (c : Content) (at : ℕ) → byte_at c (at + 63) ≢ 1 → counts c at ≡ false
unfolding counts
shut_counts c at shut = ap (λ (b : Bool). b && (names (bytes_at c at 8) 1 || names (bytes_at c at 8) 2) && pointwise nat_eq (bytes_at c (at + 48) 15) (replicate 15 0)) (not_one (byte_at c (at + 63)) shut)

-- one half alone counts
pub alone : (c : Content) (half : Half) → counts c (header_at half) ≡ true → counts c (header_at (other_half half)) ≡ false → half_in_force c ≡ Some half
unfolding half_in_force
alone c First one other = λ k. half_of (one k) (other k) (generation_at c 64 == (generation_at c 0 + 1) % 2 ^ 64)
alone c Second one other = λ k. half_of (other k) (one k) (generation_at c 64 == (generation_at c 0 + 1) % 2 ^ 64)

first_of_two : (a b next : Bool) → half_of a b next ≡ Some First → a ≡ true
first_of_two true b next is = refl
first_of_two false true next is = cc
first_of_two false false next is = cc

second_of_two : (a b next : Bool) → half_of a b next ≡ Some Second → b ≡ true
second_of_two true true next is = refl
second_of_two true false next is = cc
second_of_two false true next is = refl
second_of_two false false next is = cc

-- the header of the half in force counts
pub force_counts : (c : Content) (half : Half) → half_in_force c ≡ Some half → counts c (header_at half) ≡ true
unfolding half_in_force
force_counts c First is = first_of_two (counts c 0) (counts c 64) (generation_at c 64 == (generation_at c 0 + 1) % 2 ^ 64) is
force_counts c Second is = second_of_two (counts c 0) (counts c 64) (generation_at c 64 == (generation_at c 0 + 1) % 2 ^ 64) is

same_number : (a b : ℕ) → a ≡ b → (a == b) ≡ true
same_number a b is = grind (arith, nat_tests)

other_number : (a b : ℕ) → a ≢ b → (a == b) ≡ false
other_number a b not = grind (arith, nat_tests)

not_next : (n : ℕ) → n < 2 ^ 64 → (n == ((n + 1) % 2 ^ 64 + 1) % 2 ^ 64) ≡ false
not_next n fits =
    let not : n ≢ ((n + 1) % 2 ^ 64 + 1) % 2 ^ 64 = λ is. omega arith in
    other_number n (((n + 1) % 2 ^ 64 + 1) % 2 ^ 64) not

-- where both headers count, the one with the next generation is in force
pub next_in_force : (c : Content) (half : Half) (generation : ℕ) → generation < 2 ^ 64 → counts c (header_at half) ≡ true → counts c (header_at (other_half half)) ≡ true
    → generation_at c (header_at half) ≡ generation → generation_at c (header_at (other_half half)) ≡ (generation + 1) % 2 ^ 64 → half_in_force c ≡ Some (other_half half)
unfolding half_in_force
next_in_force c First generation fits one two is next =
    let follows : (generation_at c 64 == (generation_at c 0 + 1) % 2 ^ 64) ≡ true = (λ k. next k == (is k + 1) % 2 ^ 64) ∙ same_number ((generation + 1) % 2 ^ 64) ((generation + 1) % 2 ^ 64) refl in
    λ k. half_of (one k) (two k) (follows k)
next_in_force c Second generation fits one two is next =
    let precedes : (generation_at c 64 == (generation_at c 0 + 1) % 2 ^ 64) ≡ false = (λ k. is k == (next k + 1) % 2 ^ 64) ∙ not_next generation fits in
    λ k. half_of (two k) (one k) (precedes k)

-- which half two headers put in force
pub neither : (c : Content) → counts c 0 ≡ false → counts c 64 ≡ false → half_in_force c ≡ None
unfolding half_in_force
neither c one two = λ k. half_of (one k) (two k) (generation_at c 64 == (generation_at c 0 + 1) % 2 ^ 64)

pub both_second : (c : Content) → counts c 0 ≡ true → counts c 64 ≡ true → generation_at c 64 ≡ (generation_at c 0 + 1) % 2 ^ 64 → half_in_force c ≡ Some Second
unfolding half_in_force
both_second c one two next = λ k. half_of (one k) (two k) (same_number (generation_at c 64) ((generation_at c 0 + 1) % 2 ^ 64) next k)

pub both_first : (c : Content) → counts c 0 ≡ true → counts c 64 ≡ true → generation_at c 64 ≢ (generation_at c 0 + 1) % 2 ^ 64 → half_in_force c ≡ Some First
unfolding half_in_force
both_first c one two not = λ k. half_of (one k) (two k) (other_number (generation_at c 64) ((generation_at c 0 + 1) % 2 ^ 64) not k)
