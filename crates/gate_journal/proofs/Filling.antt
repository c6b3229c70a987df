-- What the slots of a half hold once they are written.
use Rattle.std.proofs.Common.{◌≡◌, ℕ, zero, suc, ◌+◌, ◌-◌, ◌*◌, ◌<◌, ◌≤◌, List, [], ◌∷◌, ◌++◌, replicate, length, get_or, set, take, refl, sym, ◌∙◌, ap, subst, arith, inl, inr}
use Rattle.std.proofs.lemmas.Bool.{cases_lt}
use Rattle.std.proofs.lemmas.List.{length-take-le, set_at, get_or-take, get_or_append_left, get_or-append_right}
use Rattle.disk_model.specs.Content.{Content, byte_at, bytes_at, written, TornWrite, Same}
use Rattle.disk_model.specs.Images.{DiskState, After, Steps, ChangesBy}
use Rattle.disk_model.specs.Moments.{leaves_none, changes_at, changes_then}
use Rattle.disk_model.specs.Writes.{unchanged_write, written_others, written_within}
use Rattle.disk_model.proofs.Reading.{is_bytes_at}
use Rattle.gate_journal.specs.Opened.{bodies_at}
use Rattle.gate_journal.specs.Sound.{slot_of}
use Rattle.gate_journal.proofs.Headers.{two_parts}
use Rattle.gate_journal.proofs.Same.{same_bytes}

-- a slot in place of one that isn't there yet
slot_within : (bodies : List (List ℕ)) (k : ℕ) → k < length bodies → slot_of bodies k ≡ get_or bodies k [] ++ 1 ∷ []
slot_within [] k lt = absurd (omega arith)
slot_within (body ∷ bodies) zero lt = refl
slot_within (body ∷ bodies) (suc k) lt = slot_within bodies k (omega arith)

pub slot_opened : (bodies : List (List ℕ)) (k : ℕ) (body : List ℕ) → k < length bodies → body ≡ get_or bodies k [] → length body ≡ 63 → slot_of bodies k ≡ set (body ++ 0 ∷ []) 63 1
slot_opened bodies k body lt is size = slot_within bodies k lt ∙ ap (λ (l : List ℕ). l ++ 1 ∷ []) (sym is) ∙ sym (set_at body 0 [] 1 63 size)

pub slot_past : (bodies : List (List ℕ)) (k : ℕ) → length bodies ≤ k → slot_of bodies k ≡ replicate 64 0
slot_past [] k le = refl
slot_past (body ∷ bodies) zero le = absurd (omega arith)
slot_past (body ∷ bodies) (suc k) le = slot_past bodies k (omega arith)

-- a list with a slot in place of what stood there
module _ (at : ℕ) (slot rest old : List ℕ) (fits : at ≤ length old) where
  front : length (take at old) ≡ at
  front = length-take-le at old fits

  put_below : (place : ℕ) → place < at → byte_at (take at old ++ (slot ++ rest)) place ≡ byte_at old place
  put_below place lt = get_or_append_left (take at old) (slot ++ rest) 0 place (omega (arith, front)) ∙ get_or-take at old place 0 lt

  put_within : (i : ℕ) → i < length slot → byte_at (take at old ++ (slot ++ rest)) (at + i) ≡ byte_at slot i
  put_within i lt =
      let e : at + i - at ≡ i = omega arith in
      get_or-append_right (take at old) (slot ++ rest) at (at + i) 0 front (omega arith) ∙ ap (byte_at (slot ++ rest)) e ∙ get_or_append_left slot rest 0 i lt

-- one slot more of a piece
pub piece_more : (first k : ℕ) (bodies : List (List ℕ)) (slot rest old : List ℕ) → 64 * k ≤ length old → length slot ≡ 64 → slot ≡ slot_of bodies (first + k)
    → ((i : ℕ) → i < k → bytes_at old (64 * i) 64 ≡ slot_of bodies (first + i))
    → (i : ℕ) → i < k + 1 → bytes_at (take (64 * k) old ++ (slot ++ rest)) (64 * i) 64 ≡ slot_of bodies (first + i)
piece_more first k bodies slot rest old fits size is each i lt = elim (cases_lt i k) [
  | inl before ↦
      same_bytes old (take (64 * k) old ++ (slot ++ rest)) (64 * i) 64 (λ place lo hi. put_below (64 * k) slot rest old fits place (omega arith)) ∙ each i before
  | inr le ↦
      let this : i ≡ k = omega arith in
      ap (λ (j : ℕ). bytes_at (take (64 * k) old ++ (slot ++ rest)) (64 * j) 64) this
      ∙ sym (is_bytes_at (take (64 * k) old ++ (slot ++ rest)) (64 * k) 64 slot size (λ j short. sym (put_within (64 * k) slot rest old fits j (omega arith))))
      ∙ is ∙ ap (λ (j : ℕ). slot_of bodies (first + j)) (sym this)
]

-- what a read gives of some of the bytes that were written
written_part : (at : ℕ) (bytes : List ℕ) (old : Content) (from n : ℕ) → from + n ≤ length bytes → bytes_at (written at bytes old) (at + from) n ≡ bytes_at bytes from n
written_part at bytes old from zero le = refl
written_part at bytes old from (suc n) le =
    let next : at + from + 1 ≡ at + (from + 1) = omega arith in
    let first : byte_at (written at bytes old) (at + from) ≡ byte_at bytes from = written_within at bytes old from (omega arith) in
    let rest : bytes_at (written at bytes old) (at + from + 1) n ≡ bytes_at bytes (from + 1) n =
    ap (λ (place : ℕ). bytes_at (written at bytes old) place n) next ∙ written_part at bytes old (from + 1) n (omega arith) in
    λ k. first k ∷ rest k

-- some slots more, written as one piece
pub slots_more : (start begin done count : ℕ) (bodies : List (List ℕ)) (piece : List ℕ) (old new : Content) → begin ≡ start → length piece ≡ 64 * count → ((k : ℕ) → k < count → bytes_at piece (64 * k) 64 ≡ slot_of bodies (done + k))
    → new ≡ written (begin + 64 * done) piece old → ((i : ℕ) → i < done → bytes_at old (start + 64 * i) 64 ≡ slot_of bodies i) → (i : ℕ) → i < done + count → bytes_at new (start + 64 * i) 64 ≡ slot_of bodies i
slots_more start begin done count bodies piece old new same size filled put each i lt = elim (cases_lt i done) [
  | inl before ↦
      same_bytes old new (start + 64 * i) 64 (λ place lo hi. ap (λ (c : Content). byte_at c place) put ∙ written_others (begin + 64 * done) piece old place (inl (omega arith))) ∙ each i before
  | inr le ↦
      let here : start + 64 * i ≡ begin + 64 * done + 64 * (i - done) = omega arith in
      let this : done + (i - done) ≡ i = omega arith in
      ap (λ (place : ℕ). bytes_at new place 64) here ∙ ap (λ (c : Content). bytes_at c (begin + 64 * done + 64 * (i - done)) 64) put
      ∙ written_part (begin + 64 * done) piece old (64 * (i - done)) 64 (omega arith) ∙ filled (i - done) (omega arith) ∙ ap (slot_of bodies) this
]

-- a write within a range is one of the range
pub torn_within : (at n start m : ℕ) (c d : Content) → start ≤ at → at + n ≤ start + m → TornWrite at n c d → TornWrite start m c d
torn_within at n start m c d low high torn = record {
  no_shorter = torn.no_shorter;
  no_longer = let longest = torn.no_longer in omega arith;
  others = λ place lt out. torn.others place lt (elim out [ inl below ↦ inl (omega arith) | inr above ↦ inr (omega arith) ]);
}

torn_then : (start m : ℕ) (c d e : Content) → TornWrite start m c d → TornWrite start m d e → TornWrite start m c e
torn_then start m c d e one two = record {
  no_shorter = let a = one.no_shorter in let b = two.no_shorter in omega arith;
  no_longer = let a = one.no_longer in let b = two.no_longer in omega arith;
  others = λ place lt out. two.others place (let a = one.no_shorter in omega arith) out ∙ one.others place lt out;
}

-- one write more within a range
pub torn_more : (at n start m : ℕ) (old mid new : DiskState) → start ≤ at → at + n ≤ start + m → ChangesBy (TornWrite start m) old mid → Steps (TornWrite at n) mid new → ChangesBy (TornWrite start m) old new
torn_more at n start m old mid new low high before one =
    changes_then (TornWrite start m) (TornWrite at n) (TornWrite start m) old mid new (λ c d torn. torn)
    (λ c d e first next. torn_then start m c d e first (torn_within at n start m d e low high next)) before (changes_at (TornWrite at n) mid new one)

-- one piece more of a half
pub torn_piece : (start begin n done count slots : ℕ) (old mid new : DiskState) → begin ≡ start → done + count ≤ slots → n ≡ 64 * count → ChangesBy (TornWrite start (64 * slots)) old mid → Steps (TornWrite (begin + 64 * done) n) mid new
    → ChangesBy (TornWrite start (64 * slots)) old new
torn_piece start begin n done count slots old mid new same le size before one = torn_more (begin + 64 * done) n start (64 * slots) old mid new (omega arith) (omega arith) before one

-- no write yet, and none but a sync
pub torn_none : (start m : ℕ) (disk : DiskState) → ChangesBy (TornWrite start m) disk disk
torn_none start m disk = record {
  reads = unchanged_write start m disk.seen;
  crash = λ c now. (c, now, unchanged_write start m c);
  any_moment = leaves_none disk (After (TornWrite start m) disk.may_leave);
}

pub torn_synced : (start m : ℕ) (old mid new : DiskState) → ChangesBy (TornWrite start m) old mid → Steps Same mid new → ChangesBy (TornWrite start m) old new
torn_synced start m old mid new before sync =
    changes_then (TornWrite start m) Same (TornWrite start m) old mid new (λ c d torn. torn) (λ c d e torn same. subst (TornWrite start m c) (sym same) torn) before (changes_at Same mid new sync)

-- the bodies of a half that is filled
all_bodies : (c : Content) (at : ℕ) (bodies : List (List ℕ)) → ((i : ℕ) → i < length bodies → bytes_at c (at + 64 * i) 63 ≡ get_or bodies i []) → bodies_at c at (length bodies) ≡ bodies
all_bodies c at [] each = refl
all_bodies c at (body ∷ bodies) each =
    let here : at + 64 * 0 ≡ at = omega arith in
    let first : bytes_at c at 63 ≡ body = ap (λ (i : ℕ). bytes_at c i 63) (sym here) ∙ each 0 (omega arith) in
    let rest : bodies_at c (at + 64) (length bodies) ≡ bodies = all_bodies c (at + 64) bodies (λ i lt. let e : at + 64 + 64 * i ≡ at + 64 * suc i = omega arith in ap (λ (k : ℕ). bytes_at c k 63) e ∙ each (suc i) (omega arith)) in
    λ k. first k ∷ rest k

-- Bodies of 63 bytes, in slots of 64.
module _ (c : Content) (start slots : ℕ) (bodies : List (List ℕ)) (fits : length bodies ≤ slots) (long : (i : ℕ) → i < length bodies → length (get_or bodies i []) ≡ 63)
    (filled : (k : ℕ) → k < slots → bytes_at c (start + 64 * k) 64 ≡ slot_of bodies k) where
  open_parts : (k : ℕ) → k < length bodies → (bytes_at c (start + 64 * k) 63 ≡ get_or bodies k []) × (bytes_at c (start + 64 * k + 63) 1 ≡ 1 ∷ [])
  open_parts k lt = two_parts c (start + 64 * k) 63 1 (get_or bodies k []) (1 ∷ []) (long k lt) (filled k (omega arith) ∙ slot_within bodies k lt)

  shut_parts : (k : ℕ) → length bodies ≤ k → k < slots → (bytes_at c (start + 64 * k) 63 ≡ replicate 63 0) × (bytes_at c (start + 64 * k + 63) 1 ≡ 0 ∷ [])
  shut_parts k le lt = two_parts c (start + 64 * k) 63 1 (replicate 63 0) (0 ∷ []) refl (filled k lt ∙ slot_past bodies k le)

  pub filled_open : (k : ℕ) → k < length bodies → byte_at c (start + 64 * k + 63) ≡ 1
  filled_open k lt = ap (λ (l : List ℕ). get_or l 0 0) (open_parts k lt).1

  pub filled_shut : (k : ℕ) → length bodies ≤ k → k < slots → byte_at c (start + 64 * k + 63) ≡ 0
  filled_shut k le lt = ap (λ (l : List ℕ). get_or l 0 0) (shut_parts k le lt).1

  pub filled_bodies : bodies_at c start (length bodies) ≡ bodies
  filled_bodies = all_bodies c start bodies (λ i lt. (open_parts i lt).0)
