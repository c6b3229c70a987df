-- What the two writes of a new record leave.
use Rattle.std.proofs.Common.{◌≡◌, ◌≢◌, ℕ, ◌+◌, ◌<◌, ◌≤◌, List, [], ◌∷◌, ◌++◌, Result, Ok, Err, refl, sym, ◌∙◌, ap, arith, inl, inr}
use Rattle.std.proofs.lemmas.Bool.{cases_eq, cases_lt}
use Rattle.disk_model.specs.Content.{Content, byte_at, bytes_at, written, TornWrite}
use Rattle.disk_model.specs.Images.{DiskState, Only, After, Leaves, ChangesBy, IsLawful}
use Rattle.disk_model.specs.Moments.{leaves_as}
use Rattle.gate_journal.specs.declared.standing.Standing.TheVariants.{Settled, Pending, Undecided}
use Rattle.gate_journal.specs.Calls.{MovesAs}
use Rattle.gate_journal.specs.Layout.{Layout, half_at, gate_at, slot_at, journal_length}
use Rattle.gate_journal.specs.Opened.{opened, records}
use Rattle.gate_journal.specs.Sound.{IsLaidOut, IsSoundAs, Stands, SameOutside, SameFrom, kept_by, opens_by}
use Rattle.gate_journal.proofs.Deciding.{OpensToEither, undecided, decided}
use Rattle.gate_journal.proofs.Gates.{laid_out_opens}
use Rattle.gate_journal.proofs.Places.{half_low, half_high, torn_same}
use Rattle.gate_journal.proofs.Same.{same_bytes, same_bodies, bodies_push, laid_out_by, same_laid_out}
use Rattle.gate_journal.proofs.Steps.{err_only, on_err, past_write}

module _ (l : Layout) (room : l.count < l.slots) (at : ℕ) (is_at : at ≡ slot_at l.slots l.half l.count) where
  abbrev more : Layout
  more = record l { count = l.count + 1 }

  abbrev end : ℕ
  end = journal_length l.slots

  within : at + 64 ≤ end
  within = omega (arith, half_high l.slots l.half)

  -- a write of the body of the first closed slot
  staged : (c d : Content) → SameOutside at 63 c d → IsLaidOut l c → IsLaidOut l d
  staged c d same out = same_laid_out l c d (omega arith)
      (λ i lo hi. same.others i (inl (omega (arith, half_low l.slots l.half))))
      (λ k lt. same.others (gate_at l.slots l.half k) (elim (cases_lt k l.count) [ inl before ↦ inl (omega arith) | inr behind ↦ inr (omega arith) ])) out

  staged_kept : (c d : Content) → SameOutside at 63 c d → kept_by l d ≡ kept_by l c
  staged_kept c d same = same_bodies c d (half_at l.slots l.half) l.count (λ i lo hi. same.others i (inl (omega arith)))

  -- a write of its gate
  gate_other : (c d : Content) → SameOutside (at + 63) 1 c d → (k : ℕ) → k ≢ l.count → byte_at d (gate_at l.slots l.half k) ≡ byte_at c (gate_at l.slots l.half k)
  gate_other c d same k not = same.others (gate_at l.slots l.half k) (elim (cases_lt k l.count) [ inl before ↦ inl (omega arith) | inr behind ↦ inr (omega arith) ])

  gate_here : (c : Content) (k : ℕ) → k ≡ l.count → byte_at c (gate_at l.slots l.half k) ≡ byte_at c (at + 63)
  gate_here c k is = let e : gate_at l.slots l.half k ≡ at + 63 = omega arith in ap (byte_at c) e

  gate_shut : (c d : Content) → SameOutside (at + 63) 1 c d → byte_at d (at + 63) ≢ 1 → IsLaidOut l c → IsLaidOut l d
  gate_shut c d same not out = laid_out_by l l.count c d (λ i lo hi. same.others i (inl (omega (arith, half_low l.slots l.half))))
      (λ k lt. gate_other c d same k (λ is. omega arith) ∙ out.opens k lt)
      (λ k lo hi is. elim (cases_eq k l.count) [
        | inl this ↦ not (sym (gate_here d k this) ∙ is)
        | inr other ↦ out.shut k lo hi (sym (gate_other c d same k other) ∙ is)
      ]) out

  gate_open : (c d : Content) → SameOutside (at + 63) 1 c d → byte_at d (at + 63) ≡ 1 → IsLaidOut l c → IsLaidOut more d
  gate_open c d same held out = laid_out_by l (l.count + 1) c d (λ i lo hi. same.others i (inl (omega (arith, half_low l.slots l.half))))
      (λ k lt. elim (cases_eq k l.count) [
        | inl this ↦ gate_here d k this ∙ held
        | inr other ↦ gate_other c d same k other ∙ out.opens k (omega arith)
      ])
      (λ k lo hi is. out.shut k (omega arith) hi (sym (gate_other c d same k (λ this. omega arith)) ∙ is)) out

  gate_kept : (c d : Content) → SameOutside (at + 63) 1 c d → kept_by l d ≡ kept_by l c
  gate_kept c d same = same_bodies c d (half_at l.slots l.half) l.count (λ i lo hi. same.others i (inl (omega arith)))

  more_kept : (c : Content) (body : List ℕ) → bytes_at c at 63 ≡ body → kept_by more c ≡ kept_by l c ++ body ∷ []
  more_kept c body is = bodies_push c (half_at l.slots l.half) l.count ∙ ap (λ (i : ℕ). kept_by l c ++ bytes_at c i 63 ∷ []) (sym is_at) ∙ ap (λ (b : List ℕ). kept_by l c ++ b ∷ []) is

  module _ (gate : ℕ) (old mid : DiskState) (lawful : IsLawful old) (sound : IsSoundAs Settled gate l old) (body : List ℕ) (first : ChangesBy (TornWrite at 63) old mid) where
    abbrev before : List (List ℕ)
    before = kept_by l old.seen

    abbrev after : List (List ℕ)
    after = before ++ body ∷ []

    -- the body is written, and its gate is closed
    stands : (c : Content) → After (TornWrite at 63) old.may_leave c → Stands l old.seen c
    stands c (d, was, torn) =
        let stood = (sound d was).0 in
        let same = torn_same at 63 d c (let whole = stood.whole in omega (arith, within)) torn in
        record {
          whole = let whole = stood.whole in let size = same.same_length in omega arith;
          laid_out = staged d c same stood.laid_out;
          same_records = staged_kept d c same ∙ stood.same_records;
        }

    stands_mid : Stands l old.seen mid.seen
    stands_mid = stands mid.seen (old.seen, lawful.reads_as, first.reads)

    moments_mid : Leaves old mid (OpensToEither l before l.version after)
    moments_mid = leaves_as old mid (After (TornWrite at 63) old.may_leave) (OpensToEither l before l.version after) first.any_moment (λ c torn.
        let stood = stands c torn in inl (laid_out_opens l c (omega arith) stood.laid_out ∙ ap (records l.version) stood.same_records))

    past_mid : ChangesBy (SameFrom end) old mid
    past_mid = past_write at 63 end old mid (omega (arith, within)) lawful.reads_as (λ d was. (sound d was).0.whole) first

    -- the first write failed
    pub body_failed : {T E : Type 0} (result : Result T E) (fault : E) → result ≡ Err fault → MovesAs result after (records l.version after) l l Pending gate old mid
    body_failed result fault is = record {
      sound = λ c now. let stood = stands c (first.crash c now) in record { whole = stood.whole; laid_out = stood.laid_out; same_records = stood.same_records ∙ sym stands_mid.same_records };
      done = err_only _ result fault is;
      failed = on_err result stands_mid.same_records;
      undecided = on_err result (inl (ap (records l.version) stands_mid.same_records));
      any_moment = moments_mid;
      past = past_mid;
    }

    -- the body is on the disk
    module _ (is_body : bytes_at mid.seen at 63 ≡ body) (only_mid : Only mid.seen mid.may_leave) (lawful_mid : IsLawful mid) (new : DiskState) (second : ChangesBy (TornWrite (at + 63) 1) mid new) where
      near_kept : (c : Content) → SameOutside (at + 63) 1 mid.seen c → kept_by l c ≡ before
      near_kept c same = gate_kept mid.seen c same ∙ stands_mid.same_records

      near_shut : (c : Content) → SameOutside (at + 63) 1 mid.seen c → byte_at c (at + 63) ≢ 1 → IsLaidOut l c
      near_shut c same not = gate_shut mid.seen c same not stands_mid.laid_out

      near_more : (c : Content) → SameOutside (at + 63) 1 mid.seen c → kept_by more c ≡ after
      near_more c same = more_kept c body (same_bytes mid.seen c at 63 (λ i lo hi. same.others i (inl hi)) ∙ is_body) ∙ ap (λ (b : List (List ℕ)). b ++ body ∷ []) (near_kept c same)

      near_out : (c : Content) → SameOutside (at + 63) 1 mid.seen c → byte_at c (at + 63) ≡ 1 → IsLaidOut more c
      near_out c same held = gate_open mid.seen c same held stands_mid.laid_out

      near_open : (c : Content) → SameOutside (at + 63) 1 mid.seen c → byte_at c (at + 63) ≡ 1 → opens_by l c ≡ records l.version after
      near_open c same held = laid_out_opens more c (omega arith) (near_out c same held) ∙ ap (records l.version) (near_more c same)

      -- the second write failed
      pub gate_failed : {T E : Type 0} (result : Result T E) (fault : E) → result ≡ Err fault → MovesAs result after (records l.version after) l l Undecided (at + 63) old new
      gate_failed result fault is = undecided l (omega arith) (at + 63) (omega (arith, within)) l.version after old mid new moments_mid past_mid only_mid lawful_mid second stands_mid.whole near_kept near_shut near_open result fault is

      -- the gate is on the disk
      pub appended : {T E : Type 0} (value : T) → new.seen ≡ written (at + 63) (1 ∷ []) mid.seen → Only new.seen new.may_leave → MovesAs {T = T} {E = E} (Ok value) after (records l.version after) l more Settled (at + 63) old new
      appended value opened only =
          let same : SameOutside (at + 63) 1 mid.seen new.seen = torn_same (at + 63) 1 mid.seen new.seen (let whole = stands_mid.whole in omega (arith, within)) second.reads in
          decided l (omega arith) (at + 63) (omega (arith, within)) l.version after old mid new moments_mid past_mid only_mid lawful_mid second stands_mid.whole near_kept near_shut near_open value more refl near_out (near_more new.seen same) opened only
