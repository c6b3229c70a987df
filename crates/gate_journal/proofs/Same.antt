-- What a content opens to rests on the bytes of the journal's parts alone.
use Rattle.std.proofs.Common.{◌≡◌, ℕ, zero, suc, ◌+◌, ◌*◌, ◌%◌, ◌^◌, ◌<◌, ◌≤◌, List, [], ◌∷◌, ◌++◌, replicate, false, ◌&&◌, ◌||◌, ◌==◌, nat_eq, if◌then◌else◌, Option, Some, None, refl, sym, ◌∙◌, ap, arith}
use Rattle.std.specs.Cmp.Lexicographic.{pointwise}
use Rattle.std.specs.Int.{w64, from_be_bytes}
use Rattle.disk_model.specs.Content.{Content, byte_at, bytes_at}
use Rattle.disk_model.proofs.Reading.{bytes_at-same}
use Rattle.gate_journal.specs.declared.half.Half.{Half}
use Rattle.gate_journal.specs.Layout.{Layout, header_at, half_at, gate_at, journal_length}
use Rattle.gate_journal.specs.Opened.{bodies_at, records_at, all_closed, in_order, counts, names, version_at, generation_at, digest_at, half_of, half_in_force, opened, opened_half, records, no_cache, differs}
use Rattle.gate_journal.specs.Sound.{IsLaidOut, SameBefore}
use Rattle.gate_journal.proofs.Places.{Agree, half_high, header_low}

pub same_bytes : (c d : Content) (at n : ℕ) → Agree at (at + n) c d → bytes_at d at n ≡ bytes_at c at n
same_bytes c d at n same = bytes_at-same d c at n same

pub same_counts : (c d : Content) (at : ℕ) → Agree at (at + 64) c d → counts d at ≡ counts c at
unfolding counts
same_counts c d at same =
    let gate : byte_at d (at + 63) ≡ byte_at c (at + 63) = same (at + 63) (omega arith) (omega arith) in
    let begins : bytes_at d at 8 ≡ bytes_at c at 8 = same_bytes c d at 8 (λ i lo hi. same i lo (omega arith)) in
    let ends : bytes_at d (at + 48) 15 ≡ bytes_at c (at + 48) 15 = same_bytes c d (at + 48) 15 (λ i lo hi. same i (omega arith) (omega arith)) in
    λ k. (gate k == 1) && (names (begins k) 1 || names (begins k) 2) && pointwise nat_eq (ends k) (replicate 15 0)

pub same_version : (c d : Content) (at : ℕ) → Agree at (at + 64) c d → version_at d at ≡ version_at c at
unfolding version_at
same_version c d at same =
    let begins : bytes_at d at 8 ≡ bytes_at c at 8 = same_bytes c d at 8 (λ i lo hi. same i lo (omega arith)) in
    λ k. if names (begins k) 1 then 1 else 2

pub same_generation : (c d : Content) (at : ℕ) → Agree at (at + 64) c d → generation_at d at ≡ generation_at c at
unfolding generation_at
same_generation c d at same = ap (from_be_bytes w64) (same_bytes c d (at + 8) 8 (λ i lo hi. same i (omega arith) (omega arith)))

pub same_digest : (c d : Content) (at : ℕ) → Agree at (at + 64) c d → digest_at d at ≡ digest_at c at
same_digest c d at same = same_bytes c d (at + 16) 32 (λ i lo hi. same i (omega arith) (omega arith))

pub same_force : (c d : Content) → Agree 0 128 c d → half_in_force d ≡ half_in_force c
unfolding half_in_force
same_force c d same =
    let first : Agree 0 64 c d = λ i lo hi. same i lo (omega arith) in
    let second : Agree 64 128 c d = λ i lo hi. same i (omega arith) hi in
    λ k. half_of (same_counts c d 0 first k) (same_counts c d 64 second k) (same_generation c d 64 second k == (same_generation c d 0 first k + 1) % 2 ^ 64)

pub same_bodies : (c d : Content) (at n : ℕ) → Agree at (at + 64 * n) c d → bodies_at d at n ≡ bodies_at c at n
same_bodies c d at zero same = refl
same_bodies c d at (suc n) same =
    let first : bytes_at d at 63 ≡ bytes_at c at 63 = same_bytes c d at 63 (λ i lo hi. same i lo (omega arith)) in
    let rest : bodies_at d (at + 64) n ≡ bodies_at c (at + 64) n = same_bodies c d (at + 64) n (λ i lo hi. same i (omega arith) (omega arith)) in
    λ k. first k ∷ rest k

pub bodies_push : (c : Content) (at n : ℕ) → bodies_at c at (n + 1) ≡ bodies_at c at n ++ bytes_at c (at + 64 * n) 63 ∷ []
bodies_push c at zero = let e : at + 64 * 0 ≡ at = omega arith in ap (λ (i : ℕ). bytes_at c i 63 ∷ []) (sym e)
bodies_push c at (suc n) =
    let e : at + 64 + 64 * n ≡ at + 64 * suc n = omega arith in
    let d : suc n + 1 ≡ suc (n + 1) = omega arith in
    ap (bodies_at c at) d ∙ ap (λ (l : List (List ℕ)). bytes_at c at 63 ∷ l) (bodies_push c (at + 64) n ∙ ap (λ (i : ℕ). bodies_at c (at + 64) n ++ bytes_at c i 63 ∷ []) e)

-- with the headers as they were, and the gates by themselves
pub laid_out_by : (l : Layout) (count : ℕ) (c d : Content) → Agree 0 128 c d → ((k : ℕ) → k < count → byte_at d (gate_at l.slots l.half k) ≡ 1)
    → ((k : ℕ) → count ≤ k → k < l.slots → byte_at d (gate_at l.slots l.half k) ≡ 1 → ⊥) → IsLaidOut l c → IsLaidOut (record l { count = count }) d
laid_out_by l count c d headers opens shut out =
    let own : Agree (header_at l.half) (header_at l.half + 64) c d = λ i lo hi. headers i (omega arith) (omega (arith, header_low l.half)) in
    record {
      in_force = same_force c d headers ∙ out.in_force;
      same_version = same_version c d (header_at l.half) own ∙ out.same_version;
      same_generation = same_generation c d (header_at l.half) own ∙ out.same_generation;
      same_digest = same_digest c d (header_at l.half) own ∙ out.same_digest;
      opens = opens;
      shut = shut;
    }

-- with the headers and the gates as they were
pub same_laid_out : (l : Layout) (c d : Content) → l.count ≤ l.slots → Agree 0 128 c d → ((k : ℕ) → k < l.slots → byte_at d (gate_at l.slots l.half k) ≡ byte_at c (gate_at l.slots l.half k)) → IsLaidOut l c → IsLaidOut l d
same_laid_out l c d le headers gates out =
    laid_out_by l l.count c d headers (λ k lt. gates k (omega arith) ∙ out.opens k lt) (λ k lo hi is. out.shut k lo hi (sym (gates k hi) ∙ is)) out

same_records : (c d : Content) (at n : ℕ) → Agree at (at + 64 * n) c d → records_at d at n ≡ records_at c at n
same_records c d at zero same = refl
same_records c d at (suc n) same =
    let gate : byte_at d (at + 63) ≡ byte_at c (at + 63) = same (at + 63) (omega arith) (omega arith) in
    let first : bytes_at d at 63 ≡ bytes_at c at 63 = same_bytes c d at 63 (λ i lo hi. same i lo (omega arith)) in
    let rest : records_at d (at + 64) n ≡ records_at c (at + 64) n = same_records c d (at + 64) n (λ i lo hi. same i (omega arith) (omega arith)) in
    λ k. if gate k == 1 then first k ∷ rest k else []

same_closed : (c d : Content) (at n : ℕ) → Agree at (at + 64 * n) c d → all_closed d at n ≡ all_closed c at n
same_closed c d at zero same = refl
same_closed c d at (suc n) same =
    let gate : byte_at d (at + 63) ≡ byte_at c (at + 63) = same (at + 63) (omega arith) (omega arith) in
    let rest : all_closed d (at + 64) n ≡ all_closed c (at + 64) n = same_closed c d (at + 64) n (λ i lo hi. same i (omega arith) (omega arith)) in
    λ k. if gate k == 1 then false else rest k

same_order : (c d : Content) (at n : ℕ) → Agree at (at + 64 * n) c d → in_order d at n ≡ in_order c at n
same_order c d at zero same = refl
same_order c d at (suc n) same =
    let gate : byte_at d (at + 63) ≡ byte_at c (at + 63) = same (at + 63) (omega arith) (omega arith) in
    let behind : Agree (at + 64) (at + 64 + 64 * n) c d = λ i lo hi. same i (omega arith) (omega arith) in
    let rest : in_order d (at + 64) n ≡ in_order c (at + 64) n = same_order c d (at + 64) n behind in
    let shut : all_closed d (at + 64) n ≡ all_closed c (at + 64) n = same_closed c d (at + 64) n behind in
    λ k. if gate k == 1 then rest k else shut k

same_half : (digest : List ℕ) (slots : ℕ) (c d : Content) → SameBefore (journal_length slots) c d → (half : Option Half) → opened_half digest slots d half ≡ opened_half digest slots c half
same_half digest slots c d same None = refl
same_half digest slots c d same (Some half) =
    let kept : digest_at d (header_at half) ≡ digest_at c (header_at half) = same_digest c d (header_at half) (λ i lo hi. same i (omega (arith, header_low half))) in
    let version : version_at d (header_at half) ≡ version_at c (header_at half) = same_version c d (header_at half) (λ i lo hi. same i (omega (arith, header_low half))) in
    let range : Agree (half_at slots half) (half_at slots half + 64 * slots) c d = λ i lo hi. same i (omega (arith, half_high slots half)) in
    let order : in_order d (half_at slots half) slots ≡ in_order c (half_at slots half) slots = same_order c d (half_at slots half) slots range in
    let all : records_at d (half_at slots half) slots ≡ records_at c (half_at slots half) slots = same_records c d (half_at slots half) slots range in
    λ k. if pointwise nat_eq (kept k) digest then (if order k then records (version k) (all k) else no_cache) else differs (kept k)

-- what a content opens to rests on the bytes below the journal's length
pub same_opened : (digest : List ℕ) (slots : ℕ) (c d : Content) → SameBefore (journal_length slots) c d → opened digest slots d ≡ opened digest slots c
unfolding opened
same_opened digest slots c d same =
    ap (opened_half digest slots d) (same_force c d (λ i lo hi. same i (omega arith))) ∙ same_half digest slots c d same (half_in_force c)
