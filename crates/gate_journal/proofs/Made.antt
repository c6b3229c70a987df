-- What `make` leaves.
use Rattle.std.proofs.Common.{◌≡◌, ◌≢◌, ℕ, ◌+◌, ◌-◌, ◌*◌, ◌≤◌, List, [], ◌∷◌, ◌++◌, replicate, take, length, ◌∙◌, ap, subst, arith, inl, inr}
use Rattle.std.proofs.lemmas.Bool.{cases_lt}
use Rattle.std.proofs.lemmas.List.{get_or_past, get_or-append_right, get_or-replicate, length-replicate, length-take}
use Rattle.std.specs.Int.{w64, to_be_bytes}
use Rattle.disk_model.specs.Content.{Content, byte_at, bytes_at, resized, written}
use Rattle.disk_model.specs.Writes.{length-resized, written_others, written_within}
use Rattle.gate_journal.specs.declared.half.Half.TheVariants.{First}
use Rattle.gate_journal.specs.Layout.{new_layout}
use Rattle.gate_journal.specs.Opened.{magic}
use Rattle.gate_journal.specs.Sound.{IsLaidOut}
use Rattle.gate_journal.proofs.Headers.{is_header, header_counts, header_version, header_generation, shut_counts, alone}
use Rattle.gate_journal.proofs.Places.{written_bytes}
use Rattle.gate_journal.proofs.Same.{same_bytes}

zero_bytes : (n place : ℕ) → byte_at (replicate n 0) place ≡ 0
zero_bytes n place = elim (cases_lt place n) [
  | inl lt ↦ get_or-replicate n place 0 0 lt
  | inr past ↦ get_or_past (replicate n 0) place 0 (omega (arith, length-replicate {A = ℕ} n 0))
]

-- cut to nothing and grown again, it is zeros
pub all_zeros : (n : ℕ) (c : Content) (place : ℕ) → byte_at (resized n (resized 0 c)) place ≡ 0
all_zeros n c place =
    let none : length (resized 0 c) ≡ 0 = length-resized 0 c in
    let front : length (take n (resized 0 c)) ≡ 0 = omega (arith, length-take n (resized 0 c)) in
    get_or-append_right (take n (resized 0 c)) (replicate (n - length (resized 0 c)) 0) 0 place 0 front (omega arith) ∙ zero_bytes (n - length (resized 0 c)) (place - 0)

pub laid_out : (slots : ℕ) (digest title : List ℕ) (zeros staged c : Content) → length digest ≡ 32 → ((place : ℕ) → byte_at zeros place ≡ 0) → length title ≡ 63 → title ≡ magic 2 ++ to_be_bytes w64 1 ++ digest ++ replicate 15 0
    → staged ≡ written 0 title zeros → c ≡ written 63 (1 ∷ []) staged → IsLaidOut (new_layout digest slots) c
laid_out slots digest title zeros staged c size none long is body gate =
    let held : byte_at c 63 ≡ 1 = ap (λ (d : Content). byte_at d 63) gate ∙ written_within 63 (1 ∷ []) staged 0 (omega arith) in
    let behind : (i : ℕ) → 64 ≤ i → byte_at c i ≡ 0 = λ i le.
    ap (λ (d : Content). byte_at d i) gate ∙ written_others 63 (1 ∷ []) staged i (inr (omega arith)) ∙ ap (λ (d : Content). byte_at d i) body ∙ written_others 0 title zeros i (inr (omega (arith, long))) ∙ none i in
    let front : bytes_at c 0 63 ≡ bytes_at staged 0 63 = same_bytes staged c 0 63 (λ i lo hi. ap (λ (d : Content). byte_at d i) gate ∙ written_others 63 (1 ∷ []) staged i (inl (omega arith))) in
    let header = is_header 0 1 digest c size (front ∙ subst (λ (n : ℕ). bytes_at staged 0 n ≡ title) long (written_bytes 0 title zeros staged body) ∙ is) in
    let shut : byte_at c 127 ≢ 1 = λ is_one. let zero_there : byte_at c 127 ≡ 0 = behind 127 (omega arith) in absurd (omega arith) in
    record {
      in_force = alone c First (header_counts 0 1 digest c header held) (shut_counts c 64 shut);
      same_version = header_version 0 1 digest c header;
      same_generation = header_generation 0 1 digest c (omega arith) header;
      same_digest = header.digests;
      opens = λ k lt. absurd (omega arith);
      shut = λ k lo hi is_one. let zero_there : byte_at c (128 + 64 * k + 63) ≡ 0 = behind (128 + 64 * k + 63) (omega arith) in absurd (omega arith);
    }
