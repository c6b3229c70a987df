-- Entries of a file of sums, once one is written.
use Rattle.std.proofs.Common.{◌≡◌, ◌≢◌, ℕ, ◌+◌, ◌*◌, ◌/◌, ◌<◌, ◌≤◌, List, length, take, drop, refl, sym, ◌∙◌, ap, subst, inl, inr, arith}
use Rattle.std.proofs.lemmas.Bool.{cases_lt}
use Rattle.std.proofs.lemmas.Nat.{le-div, mul-le}
use Rattle.std.proofs.Math.Nat.{div-mul-le_self}
use Rattle.byteorder.specs.Endian.{little_number}
use Rattle.disk_model.specs.Content.{Content, IsOutside, bytes_at, written}
use Rattle.disk_model.specs.Writes.{written_others, written_within}
use Rattle.disk_model.proofs.Reading.{bytes_at-same, is_bytes_at}
use Rattle.summed_disk.specs.Entries.{AreSummed, entry_at, sum_at}
use Rattle.summed_disk.specs.Sum.{part_sum}

pub entry_read : (sums : Content) (k : ℕ) → little_number 8 (bytes_at sums (8 * k) 8) ≡ entry_at sums k
unfolding entry_at
entry_read sums k = refl

pub entry_written : (k : ℕ) (entry : List ℕ) (before : Content) → length entry ≡ 8 → entry_at (written (8 * k) entry before) k ≡ little_number 8 entry
unfolding entry_at
entry_written k entry before long =
    ap (little_number 8) (sym (is_bytes_at (written (8 * k) entry before) (8 * k) 8 entry long (λ i lt. sym (written_within (8 * k) entry before i (omega arith)))))

outside : (k j place : ℕ) → j ≢ k → 8 * j ≤ place → place < 8 * j + 8 → IsOutside (8 * k) 8 place
outside k j place not lo hi = elim (cases_lt j k) [
  | inl below ↦ inl (omega arith)
  | inr above ↦ elim (cases_lt k j) [
    | inl past ↦ inr (omega arith)
    | inr same ↦ absurd (not (omega arith))
  ]
]

pub entry_other : (k j : ℕ) (entry : List ℕ) (before : Content) → length entry ≡ 8 → j ≢ k → entry_at (written (8 * k) entry before) j ≡ entry_at before j
unfolding entry_at
entry_other k j entry before long not =
    ap (little_number 8) (bytes_at-same (written (8 * k) entry before) before (8 * j) 8 (λ place lo hi.
    written_others (8 * k) entry before place (subst (λ (n : ℕ). IsOutside (8 * k) n place) (sym long) (outside k j place not lo hi))))

one_more : (a n : ℕ) → (a + 1) * n ≡ a * n + n
one_more a n = grind arith

-- what begins a grain further on is in a later grain
later_grain : (grain a b : ℕ) → 0 < grain → a + grain ≤ b → a / grain < b / grain
later_grain grain a b some past =
    let le = div-mul-le_self a grain in
    let e = one_more (a / grain) grain in
    let up = le-div (a / grain + 1) b grain some (omega arith) in
    omega arith

-- a piece ends before a later one begins
ends_before : (j i piece : ℕ) → j < i → j * piece + piece ≤ i * piece
ends_before j i piece lt =
    let le = mul-le (j + 1) piece i piece (omega arith) (omega arith) in
    let e = one_more j piece in
    omega arith

-- The first i pieces of some bytes have their sums.
pub record AreSummedTo (i grain number from piece at : ℕ) (bytes : List ℕ) (old new : Content) : Type 0 where
  pub each : (j : ℕ) → j < i → sum_at new grain (at + j * piece) ≡ part_sum number (from + j * piece) (take piece (drop (j * piece) bytes))
  pub others : (k : ℕ) → ((j : ℕ) → j < i → k ≢ (at + j * piece) / grain) → entry_at new k ≡ entry_at old k

pub summed_none : (grain number from piece at : ℕ) (bytes : List ℕ) (old : Content) → AreSummedTo 0 grain number from piece at bytes old old
summed_none grain number from piece at bytes old = record { each = λ j lt. absurd (omega arith); others = λ k not. refl }

-- one piece more
pub summed_more : (i grain number from piece at : ℕ) (bytes : List ℕ) (old mid new : Content) → 0 < grain → grain ≤ piece
    → AreSummedTo i grain number from piece at bytes old mid
    → sum_at new grain (at + i * piece) ≡ part_sum number (from + i * piece) (take piece (drop (i * piece) bytes))
    → ((k : ℕ) → k ≢ (at + i * piece) / grain → entry_at new k ≡ entry_at mid k)
    → AreSummedTo (i + 1) grain number from piece at bytes old new
summed_more i grain number from piece at bytes old mid new some wide was this others = record {
  each = λ j lt. elim (cases_lt j i) [
    | inl before ↦
        let ends = ends_before j i piece before in
        let later = later_grain grain (at + j * piece) (at + i * piece) some (omega arith) in
        others ((at + j * piece) / grain) (λ e. omega arith) ∙ was.each j before
    | inr last ↦
        let e : i ≡ j = omega arith in
        subst (λ (n : ℕ). sum_at new grain (at + n * piece) ≡ part_sum number (from + n * piece) (take piece (drop (n * piece) bytes))) e this
  ];
  others = λ k not. others k (not i (omega arith)) ∙ was.others k (λ j lt. not j (omega arith));
}

-- all of them
pub summed_all : (grain number from piece at : ℕ) (bytes : List ℕ) (old new : Content) → 0 < piece
    → AreSummedTo (length bytes / piece) grain number from piece at bytes old new → AreSummed grain number from piece at bytes old new
summed_all grain number from piece at bytes old new some all = record {
  each = λ i within. all.each i (below i within);
  others = λ k not. all.others k (λ j lt. not j (let e = one_more j piece in let le = mul-le (j + 1) piece (length bytes / piece) piece (omega arith) (omega arith) in let top = div-mul-le_self (length bytes) piece in omega arith));
}
  where
    below : (i : ℕ) → i * piece + piece ≤ length bytes → i < length bytes / piece
    below i within = let e = one_more i piece in let up = le-div (i + 1) (length bytes) piece some (omega arith) in omega arith
