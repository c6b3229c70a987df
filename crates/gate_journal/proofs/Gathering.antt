-- What the slots of a half say, one after another.
use Rattle.std.proofs.Common.{◌≡◌, ◌≢◌, ℕ, zero, suc, ◌+◌, ◌-◌, ◌*◌, ◌<◌, ◌≤◌, List, [], ◌∷◌, ◌++◌, length, length-append, take, drop, false, refl, sym, ◌∙◌, ap, arith, inl, inr}
use Rattle.std.proofs.lemmas.Bool.{cases_eq, cases_lt}
use Rattle.disk_model.specs.Content.{Content, byte_at, bytes_at}
use Rattle.gate_journal.specs.Opened.{all_closed, in_order, bodies_at}
use Rattle.gate_journal.specs.Reading.{HasRead, IsDisordered}
use Rattle.gate_journal.proofs.Choosing.{front_bytes, back_bytes}
use Rattle.gate_journal.proofs.Gates.{is_one, not_one, first_gate, next_gate}
use Rattle.gate_journal.proofs.Same.{bodies_push}

not_all_closed : (c : Content) (at n k : ℕ) → k < n → byte_at c (at + 64 * k + 63) ≡ 1 → all_closed c at n ≡ false
not_all_closed c at zero k lt held = absurd (omega arith)
not_all_closed c at (suc n) zero lt held = rw (is_one (byte_at c (at + 63)) (sym (first_gate c at) ∙ held)) refl
not_all_closed c at (suc n) (suc k) lt held = elim (cases_eq (byte_at c (at + 63)) 1) [
  | inl first ↦ rw (is_one (byte_at c (at + 63)) first) refl
  | inr first ↦ rw (not_one (byte_at c (at + 63)) first) (not_all_closed c (at + 64) n k (omega arith) (sym (next_gate c at k) ∙ held))
]

-- an open gate after a closed one
out_of_order : (c : Content) (at n m k : ℕ) → m < k → k < n → byte_at c (at + 64 * m + 63) ≢ 1 → byte_at c (at + 64 * k + 63) ≡ 1 → in_order c at n ≡ false
out_of_order c at zero m k lt within shut held = absurd (omega arith)
out_of_order c at (suc n) m zero lt within shut held = absurd (omega arith)
out_of_order c at (suc n) zero (suc k) lt within shut held =
    rw (not_one (byte_at c (at + 63)) (λ is. shut (first_gate c at ∙ is))) (not_all_closed c (at + 64) n k (omega arith) (sym (next_gate c at k) ∙ held))
out_of_order c at (suc n) (suc m) (suc k) lt within shut held = elim (cases_eq (byte_at c (at + 63)) 1) [
  | inl first ↦ rw (is_one (byte_at c (at + 63)) first) (out_of_order c (at + 64) n m k (omega arith) (omega arith) (λ is. shut (next_gate c at m ∙ is)) (sym (next_gate c at k) ∙ held))
  | inr first ↦ rw (not_one (byte_at c (at + 63)) first) (not_all_closed c (at + 64) n k (omega arith) (sym (next_gate c at k) ∙ held))
]

pub disordered : (c : Content) (start upto slots : ℕ) → upto ≤ slots → IsDisordered c start upto → in_order c start slots ≡ false
disordered c start upto slots le is = let a = is.within in out_of_order c start slots is.closed is.behind is.before (omega arith) is.shut is.opens

-- nothing is read yet
pub none_read : (c : Content) (start : ℕ) → HasRead c start 0 []
none_read c start = record { fits = omega arith; opens = λ k lt. absurd (omega arith); shut = λ k lo hi. absurd (omega arith); bodies_are = refl }

module _ (c : Content) (start k : ℕ) (bodies : List (List ℕ)) (read : HasRead c start k bodies) where
  -- one slot more, after a closed gate
  pub more_shut : byte_at c (start + 64 * k + 63) ≢ 1 → HasRead c start (k + 1) bodies
  more_shut not = record {
    fits = let fits = read.fits in omega arith;
    opens = read.opens;
    shut = λ i lo hi is. elim (cases_lt i k) [
      | inl before ↦ read.shut i lo before is
      | inr le ↦ not (let e : start + 64 * i + 63 ≡ start + 64 * k + 63 = omega arith in sym (ap (byte_at c) e) ∙ is)
    ];
    bodies_are = read.bodies_are;
  }

  -- one slot more, after an open gate
  pub more_open : (body : List ℕ) → length bodies ≡ k → byte_at c (start + 64 * k + 63) ≡ 1 → bytes_at c (start + 64 * k) 63 ≡ body → HasRead c start (k + 1) (bodies ++ body ∷ [])
  more_open body size held is =
      let longer : length (bodies ++ body ∷ []) ≡ k + 1 = omega (arith, length-append bodies (body ∷ []), size) in
      record {
        fits = omega arith;
        opens = λ i lt. elim (cases_lt i k) [
          | inl before ↦ read.opens i (omega arith)
          | inr le ↦ let e : start + 64 * i + 63 ≡ start + 64 * k + 63 = omega arith in ap (byte_at c) e ∙ held
        ];
        shut = λ i lo hi. absurd (omega arith);
        bodies_are = ap (bodies_at c start) longer ∙ bodies_push c start k ∙ (λ j. same j ++ is j ∷ []);
      }
    where
      same : bodies_at c start k ≡ bodies
      same = ap (bodies_at c start) (sym size) ∙ read.bodies_are

  -- an open gate after a closed one
  pub found_disorder : length bodies < k → byte_at c (start + 64 * k + 63) ≡ 1 → IsDisordered c start (k + 1)
  found_disorder fewer held = record {
    closed = length bodies;
    behind = k;
    before = fewer;
    within = omega arith;
    shut = read.shut (length bodies) (omega arith) fewer;
    opens = held;
  }

-- among more slots it is there still
pub disorder_more : (c : Content) (start m n : ℕ) → m ≤ n → IsDisordered c start m → IsDisordered c start n
disorder_more c start m n le is = let a = is.within in record { closed = is.closed; behind = is.behind; before = is.before; within = omega arith; shut = is.shut; opens = is.opens }

-- the k-th of some slots that were read at once
pub slot_of_part : (c : Content) (start before count k n : ℕ) (part : List ℕ) → k < count → n ≡ 64 → part ≡ bytes_at c (start + 64 * before) (64 * count) → take n (drop (64 * k) part) ≡ bytes_at c (start + 64 * (before + k)) 64
slot_of_part c start before count k n part lt size is =
    let whole : 64 * count ≡ 64 * k + (64 * count - 64 * k) = omega arith in
    let rest : 64 * count - 64 * k ≡ 64 + (64 * count - 64 * k - 64) = omega arith in
    let here : start + 64 * before + 64 * k ≡ start + 64 * (before + k) = omega arith in
    ap (λ (m : ℕ). take m (drop (64 * k) part)) size
    ∙ ap (λ (l : List ℕ). take 64 (drop (64 * k) l)) (is ∙ ap (bytes_at c (start + 64 * before)) whole)
    ∙ ap (take 64) (back_bytes c (start + 64 * before) (64 * k) (64 * count - 64 * k) ∙ ap (bytes_at c (start + 64 * before + 64 * k)) rest)
    ∙ front_bytes c (start + 64 * before + 64 * k) 64 (64 * count - 64 * k - 64)
    ∙ ap (λ (p : ℕ). bytes_at c p 64) here
