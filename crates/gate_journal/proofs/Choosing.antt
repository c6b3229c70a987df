-- What a slot that is read says of a header, and what opening makes of it.
use Rattle.std.proofs.Common.{◌≡◌, ℕ, ◌+◌, ◌==◌, ◌&&◌, ◌||◌, nat_eq, List, drop, take, length, get_or, replicate, if◌then◌else◌, not, Bool, true, false, Some, None, refl, sym, ◌∙◌, ap, arith}
use Rattle.std.proofs.lemmas.Bool.Decides.{Decides-eqb}
use Rattle.std.proofs.lemmas.List.{take_at, drop_at}
use Rattle.std.proofs.lemmas.Slice.Eq.{slice_eq-Decides}
use Rattle.std.specs.Cmp.Lexicographic.{pointwise}
use Rattle.std.specs.Int.{w64, from_be_bytes}
use Rattle.disk_model.specs.Content.{Content, byte_at, bytes_at}
use Rattle.disk_model.proofs.Reading.{length-bytes_at, byte-bytes_at}
use Rattle.gate_journal.specs.declared.half.Half.{Half}
use Rattle.gate_journal.specs.Layout.{header_at, half_at}
use Rattle.gate_journal.specs.Opened.{counts, names, version_at, generation_at, digest_at, half_in_force, in_order, records_at, opened, opened_half, records, no_cache, differs}
use Rattle.gate_journal.specs.Reading.{HasRead}
use Rattle.gate_journal.specs.Sound.{IsLaidOut}
use Rattle.gate_journal.proofs.Gates.{same_list}
use Rattle.gate_journal.proofs.Headers.{split_bytes}

counts_by : (c : Content) (at : ℕ) (gate begins ends : Bool) → (byte_at c (at + 63) == 1) ≡ gate → (names (bytes_at c at 8) 1 || names (bytes_at c at 8) 2) ≡ begins → pointwise nat_eq (bytes_at c (at + 48) 15) (replicate 15 0) ≡ ends
    → counts c at ≡ (gate && begins && ends)
unfolding counts
counts_by c at gate begins ends is_gate is_begins is_ends = λ k. is_gate k && is_begins k && is_ends k

pub generation_by : (c : Content) (at : ℕ) (bytes : List ℕ) → bytes ≡ bytes_at c (at + 8) 8 → from_be_bytes w64 bytes ≡ generation_at c at
unfolding generation_at
generation_by c at bytes is = ap (from_be_bytes w64) is

version_by : (c : Content) (at : ℕ) (bytes : List ℕ) → bytes ≡ bytes_at c at 8 → (if names bytes 1 then 1 else 2) ≡ version_at c at
unfolding version_at
version_by c at bytes is = λ k. if names (is k) 1 then 1 else 2

pub front_bytes : (c : Content) (at m n : ℕ) → take m (bytes_at c at (m + n)) ≡ bytes_at c at m
front_bytes c at m n = ap (take m) (split_bytes c at m n) ∙ take_at (bytes_at c at m) (bytes_at c (at + m) n) m (length-bytes_at c at m)

pub back_bytes : (c : Content) (at m n : ℕ) → drop m (bytes_at c at (m + n)) ≡ bytes_at c (at + m) n
back_bytes c at m n = ap (drop m) (split_bytes c at m n) ∙ drop_at (bytes_at c at m) (bytes_at c (at + m) n) m (length-bytes_at c at m)

module _ (c : Content) (at : ℕ) (slot : List ℕ) (is : slot ≡ bytes_at c at 64) where
  pub slot_gate : get_or slot 63 0 ≡ byte_at c (at + 63)
  slot_gate = ap (λ (l : List ℕ). get_or l 63 0) is ∙ byte-bytes_at c at 64 63 (omega arith)

  slot_begins : take 8 slot ≡ bytes_at c at 8
  slot_begins = ap (take 8) is ∙ front_bytes c at 8 56

  pub slot_version : (if names (take 8 slot) 1 then 1 else 2) ≡ version_at c at
  slot_version = version_by c at (take 8 slot) slot_begins

  pub slot_number : take 8 (drop 8 slot) ≡ bytes_at c (at + 8) 8
  slot_number = ap (λ (l : List ℕ). take 8 (drop 8 l)) is ∙ ap (take 8) (back_bytes c at 8 56) ∙ front_bytes c (at + 8) 8 48

  pub slot_digest : take 32 (drop 16 slot) ≡ bytes_at c (at + 16) 32
  slot_digest = ap (λ (l : List ℕ). take 32 (drop 16 l)) is ∙ ap (take 32) (back_bytes c at 16 48) ∙ front_bytes c (at + 16) 32 16

  slot_ends : take 15 (drop 48 slot) ≡ bytes_at c (at + 48) 15
  slot_ends = ap (λ (l : List ℕ). take 15 (drop 48 l)) is ∙ ap (take 15) (back_bytes c at 48 16) ∙ front_bytes c (at + 48) 15 1

  pub slot_body : take 63 slot ≡ bytes_at c at 63
  slot_body = ap (take 63) is ∙ front_bytes c at 63 1

  -- what the tests on a slot say of its header
  pub slot_counts : (gate begins ends : Bool) → (get_or slot 63 0 == 1) ≡ gate → (names (take 8 slot) 1 || names (take 8 slot) 2) ≡ begins → pointwise nat_eq (take 15 (drop 48 slot)) (replicate 15 0) ≡ ends → counts c at ≡ (gate && begins && ends)
  slot_counts gate begins ends is_gate is_begins is_ends = counts_by c at gate begins ends
      (ap (λ (n : ℕ). n == 1) (sym slot_gate) ∙ is_gate)
      (ap (λ (l : List ℕ). names l 1 || names l 2) (sym slot_begins) ∙ is_begins)
      (ap (λ (l : List ℕ). pointwise nat_eq l (replicate 15 0)) (sym slot_ends) ∙ is_ends)

pub opened_none : (digest : List ℕ) (slots : ℕ) (c : Content) → half_in_force c ≡ None → opened digest slots c ≡ no_cache
unfolding opened
opened_none digest slots c is = ap (opened_half digest slots c) is

pub opened_differs : (digest : List ℕ) (slots : ℕ) (c : Content) (half : Half) → half_in_force c ≡ Some half → pointwise nat_eq (digest_at c (header_at half)) digest ≡ false → opened digest slots c ≡ differs (digest_at c (header_at half))
unfolding opened
opened_differs digest slots c half is other = ap (opened_half digest slots c) is ∙ (λ k. if other k
    then (if in_order c (half_at slots half) slots then records (version_at c (header_at half)) (records_at c (half_at slots half) slots) else no_cache)
    else differs (digest_at c (header_at half)))

pub opened_disorder : (digest : List ℕ) (slots : ℕ) (c : Content) (half : Half) → half_in_force c ≡ Some half → digest_at c (header_at half) ≡ digest → in_order c (half_at slots half) slots ≡ false → opened digest slots c ≡ no_cache
unfolding opened
opened_disorder digest slots c half is same disorder = ap (opened_half digest slots c) is ∙ (λ k. if pointwise nat_eq (same k) digest
    then (if disorder k then records (version_at c (header_at half)) (records_at c (half_at slots half) slots) else no_cache)
    else differs (same k)) ∙ (λ k. if same_list digest k then no_cache else differs digest)

pub from_not_true : (b : Bool) → true ≡ not b → b ≡ false
from_not_true true is = cc
from_not_true false is = refl

pub from_not_false : (b : Bool) → false ≡ not b → b ≡ true
from_not_false true is = refl
from_not_false false is = cc

pub same_lists_of : (xs ys : List ℕ) → pointwise nat_eq xs ys ≡ true → xs ≡ ys
same_lists_of xs ys is = (slice_eq-Decides Decides-eqb xs ys (pointwise nat_eq xs ys) refl).0 is

-- a half that was read is laid out
pub laid_out_of : (slots : ℕ) (half : Half) (version generation : ℕ) (digest : List ℕ) (c : Content) (bodies : List (List ℕ)) → half_in_force c ≡ Some half → version ≡ version_at c (header_at half) → generation ≡ generation_at c (header_at half) → digest ≡ digest_at c (header_at half)
    → HasRead c (half_at slots half) slots bodies → IsLaidOut (record { slots = slots; half = half; count = length bodies; version = version; generation = generation; digest = digest }) c
laid_out_of slots half version generation digest c bodies is named number names has = record {
  in_force = is;
  same_version = sym named;
  same_generation = sym number;
  same_digest = sym names;
  opens = has.opens;
  shut = has.shut;
}
