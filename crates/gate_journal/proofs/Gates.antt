-- What a half stands for whose first gates are open.
use Rattle.std.proofs.Common.{◌≡◌, ◌≢◌, ℕ, zero, suc, ◌+◌, ◌*◌, ◌<◌, ◌≤◌, List, [], ◌∷◌, true, false, ◌==◌, nat_eq, if◌then◌else◌, refl, sym, ◌∙◌, ap, arith}
use Rattle.std.proofs.lemmas.Bool.Decides.{nat_tests}
use Rattle.std.specs.Cmp.Lexicographic.{pointwise}
use Rattle.disk_model.specs.Content.{Content, byte_at, bytes_at}
use Rattle.gate_journal.specs.Layout.{Layout, header_at, half_at}
use Rattle.gate_journal.specs.Opened.{bodies_at, records_at, all_closed, in_order, version_at, opened, opened_half, records, no_cache, differs}
use Rattle.gate_journal.specs.Sound.{IsLaidOut, kept_by, opens_by}

pub is_one : (n : ℕ) → n ≡ 1 → (n == 1) ≡ true
is_one n is = grind (arith, nat_tests)

pub not_one : (n : ℕ) → n ≢ 1 → (n == 1) ≡ false
not_one n is = grind (arith, nat_tests)

-- the first slot's gate, and those of the slots after it
pub first_gate : (c : Content) (at : ℕ) → byte_at c (at + 64 * 0 + 63) ≡ byte_at c (at + 63)
first_gate c at = let e : at + 64 * 0 + 63 ≡ at + 63 = omega arith in ap (byte_at c) e

pub next_gate : (c : Content) (at k : ℕ) → byte_at c (at + 64 * suc k + 63) ≡ byte_at c (at + 64 + 64 * k + 63)
next_gate c at k = let e : at + 64 * suc k + 63 ≡ at + 64 + 64 * k + 63 = omega arith in ap (byte_at c) e

-- the gates of n slots from a place on, from the k-th on, are closed
abbrev pub Shut : Content → ℕ → ℕ → ℕ → Type 0
Shut c at from n = (k : ℕ) → from ≤ k → k < n → byte_at c (at + 64 * k + 63) ≢ 1

abbrev pub Open : Content → ℕ → ℕ → Type 0
Open c at n = (k : ℕ) → k < n → byte_at c (at + 64 * k + 63) ≡ 1

shut_behind : (c : Content) (at from n : ℕ) → Shut c at (suc from) (suc n) → Shut c (at + 64) from n
shut_behind c at from n shut k lo hi is = shut (suc k) (omega arith) (omega arith) (next_gate c at k ∙ is)

none_behind : (c : Content) (at n : ℕ) → Shut c at 0 (suc n) → Shut c (at + 64) 0 n
none_behind c at n shut k lo hi is = shut (suc k) (omega arith) (omega arith) (next_gate c at k ∙ is)

first_shut : (c : Content) (at n : ℕ) → Shut c at 0 (suc n) → (byte_at c (at + 63) == 1) ≡ false
first_shut c at n shut = not_one (byte_at c (at + 63)) (λ is. shut 0 (omega arith) (omega arith) (first_gate c at ∙ is))

pub first_open : (c : Content) (at n : ℕ) → Open c at (suc n) → (byte_at c (at + 63) == 1) ≡ true
first_open c at n opens = is_one (byte_at c (at + 63)) (sym (first_gate c at) ∙ opens 0 (omega arith))

pub open_behind : (c : Content) (at n : ℕ) → Open c at (suc n) → Open c (at + 64) n
open_behind c at n opens k lt = sym (next_gate c at k) ∙ opens (suc k) (omega arith)

closed_all : (c : Content) (at n : ℕ) → Shut c at 0 n → all_closed c at n ≡ true
closed_all c at zero shut = refl
closed_all c at (suc n) shut = let first = first_shut c at n shut in rw first (closed_all c (at + 64) n (none_behind c at n shut))

no_records : (c : Content) (at n : ℕ) → Shut c at 0 n → records_at c at n ≡ []
no_records c at zero shut = refl
no_records c at (suc n) shut = let first = first_shut c at n shut in rw first refl

none_in_order : (c : Content) (at n : ℕ) → Shut c at 0 n → in_order c at n ≡ true
none_in_order c at zero shut = refl
none_in_order c at (suc n) shut = let first = first_shut c at n shut in rw first (closed_all c (at + 64) n (none_behind c at n shut))

pub first_records : (c : Content) (at n count : ℕ) → count ≤ n → Open c at count → Shut c at count n → records_at c at n ≡ bodies_at c at count
first_records c at n zero le opens shut = no_records c at n shut
first_records c at zero (suc count) le opens shut = absurd (omega arith)
first_records c at (suc n) (suc count) le opens shut =
    let first = first_open c at count opens in
    rw first (ap (λ (l : List (List ℕ)). bytes_at c at 63 ∷ l) (first_records c (at + 64) n count (omega arith) (open_behind c at count opens) (shut_behind c at count n shut)))

pub first_in_order : (c : Content) (at n count : ℕ) → count ≤ n → Open c at count → Shut c at count n → in_order c at n ≡ true
first_in_order c at n zero le opens shut = none_in_order c at n shut
first_in_order c at zero (suc count) le opens shut = absurd (omega arith)
first_in_order c at (suc n) (suc count) le opens shut =
    let first = first_open c at count opens in
    rw first (first_in_order c (at + 64) n count (omega arith) (open_behind c at count opens) (shut_behind c at count n shut))

pub same_list : (xs : List ℕ) → pointwise nat_eq xs xs ≡ true
same_list [] = refl
same_list (x ∷ xs) = let first : nat_eq x x ≡ true = grind (arith, nat_tests) in rw first (same_list xs)

-- what is laid out opens to its records
pub laid_out_opens : (l : Layout) (c : Content) → l.count ≤ l.slots → IsLaidOut l c → opens_by l c ≡ records l.version (kept_by l c)
unfolding opened
laid_out_opens l c le out =
    ap (opened_half l.digest l.slots c) out.in_force
    ∙ ap (λ (d : List ℕ). if pointwise nat_eq d l.digest
    then (if in_order c (half_at l.slots l.half) l.slots then records (version_at c (header_at l.half)) (records_at c (half_at l.slots l.half) l.slots) else no_cache)
    else differs d) out.same_digest
    ∙ rw (same_list l.digest, first_in_order c (half_at l.slots l.half) l.slots l.count le out.opens out.shut, first_records c (half_at l.slots l.half) l.slots l.count le out.opens out.shut, out.same_version) refl
