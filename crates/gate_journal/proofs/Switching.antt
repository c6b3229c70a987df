-- What the writes of a compaction leave.
use Rattle.std.proofs.Common.{◌≡◌, ◌≢◌, ℕ, ◌+◌, ◌*◌, ◌%◌, ◌^◌, ◌<◌, ◌≤◌, List, [], ◌∷◌, ◌++◌, replicate, length, get_or, Result, Ok, Err, refl, sym, ◌∙◌, ap, subst, arith, inl, inr}
use Rattle.std.proofs.lemmas.Bool.{cases_eq, cases_lt}
use Rattle.std.proofs.lemmas.Result.{on_err_weaker}
use Rattle.std.specs.Int.{w64, to_be_bytes}
use Rattle.disk_model.specs.Content.{Content, byte_at, bytes_at, written, TornWrite, Same}
use Rattle.disk_model.specs.Images.{DiskState, Every, Only, After, Leaves, Steps, ChangesBy, IsLawful}
use Rattle.disk_model.specs.Moments.{leaves_as, leaves_then, changes_at}
use Rattle.gate_journal.specs.declared.standing.Standing.{Standing}
use Rattle.gate_journal.specs.declared.standing.Standing.TheVariants.{Settled, Pending, Undecided}
use Rattle.gate_journal.specs.Calls.{MovesAs, KeepsRecords, IsFilled}
use Rattle.gate_journal.specs.Layout.{Layout, header_at, half_at, gate_at, header_gate, other_half, journal_length}
use Rattle.gate_journal.specs.Opened.{magic, records}
use Rattle.gate_journal.specs.Sound.{IsLaidOut, IsSoundAs, Stands, SameOutside, SameBefore, SameFrom, kept_by, opens_by, slot_of}
use Rattle.gate_journal.proofs.Deciding.{OpensToEither, undecided, decided}
use Rattle.gate_journal.proofs.Filling.{filled_open, filled_shut, filled_bodies}
use Rattle.gate_journal.proofs.Gates.{laid_out_opens}
use Rattle.gate_journal.proofs.Headers.{IsHeader, is_header, header_counts, header_version, header_generation, shut_counts, alone, force_counts, next_in_force}
use Rattle.gate_journal.proofs.Places.{Agree, half_low, half_high, header_low, headers_apart, halves_apart, torn_same, written_bytes}
use Rattle.gate_journal.proofs.Same.{same_bytes, same_counts, same_version, same_generation, same_digest, same_bodies, same_laid_out}
use Rattle.gate_journal.proofs.Steps.{err_only, on_err, from_only, past_write, past_same, past_then}

-- a gate that was closed, and is on the disk
pub shut_by_write : (gate : ℕ) (mid new : DiskState) → new.seen ≡ written gate (0 ∷ []) mid.seen → Only new.seen new.may_leave → Every new.may_leave (λ c. byte_at c gate ≢ 1)
shut_by_write gate mid new put only c now is =
    let zero_there : byte_at new.seen gate ≡ 0 = ap (λ (bytes : List ℕ). get_or bytes 0 0) (written_bytes gate (0 ∷ []) mid.seen new.seen put) in
    let one_there : byte_at new.seen gate ≡ 1 = ap (λ (e : Content). byte_at e gate) (sym (only c now)) ∙ is in
    absurd (omega arith)

module _ (l : Layout) (fits : l.count ≤ l.slots) where
  abbrev end : ℕ
  end = journal_length l.slots

  -- the other header, its gate, and the other half
  abbrev header : ℕ
  header = header_at (other_half l.half)

  abbrev gate : ℕ
  gate = header_gate (other_half l.half)

  abbrev start : ℕ
  start = half_at l.slots (other_half l.half)

  -- the header and the half in force are as they were, and the other header doesn't count
  stays : (c d : Content) → Agree (header_at l.half) (header_at l.half + 64) c d → Agree (half_at l.slots l.half) (half_at l.slots l.half + 64 * l.slots) c d → byte_at d gate ≢ 1 → IsLaidOut l c → IsLaidOut l d
  stays c d headers slots shut out = record {
    in_force = alone d l.half (same_counts c d (header_at l.half) headers ∙ force_counts c l.half out.in_force) (shut_counts d header shut);
    same_version = same_version c d (header_at l.half) headers ∙ out.same_version;
    same_generation = same_generation c d (header_at l.half) headers ∙ out.same_generation;
    same_digest = same_digest c d (header_at l.half) headers ∙ out.same_digest;
    opens = λ k lt. slots (gate_at l.slots l.half k) (omega arith) (omega arith) ∙ out.opens k lt;
    shut = λ k lo hi is. out.shut k lo hi (sym (slots (gate_at l.slots l.half k) (omega arith) (omega arith)) ∙ is);
  }

  stays_kept : (c d : Content) → Agree (half_at l.slots l.half) (half_at l.slots l.half + 64 * l.slots) c d → kept_by l d ≡ kept_by l c
  stays_kept c d slots = same_bodies c d (half_at l.slots l.half) l.count (λ i lo hi. slots i lo (omega arith))

  -- a write in the other header's slot
  module _ (at n : ℕ) (low : header_at (other_half l.half) ≤ at) (high : at + n ≤ header_at (other_half l.half) + 64) (c d : Content) (same : SameOutside at n c d) where
    own_header : Agree (header_at l.half) (header_at l.half + 64) c d
    own_header i lo hi = same.others i (elim (headers_apart l.half) [ inl below ↦ inr (omega arith) | inr above ↦ inl (omega arith) ])

    own_half : Agree (half_at l.slots l.half) (half_at l.slots l.half + 64 * l.slots) c d
    own_half i lo hi = same.others i (inr (omega (arith, half_low l.slots l.half, header_low (other_half l.half))))

    other_slots : (i : ℕ) → half_at l.slots (other_half l.half) ≤ i → byte_at d i ≡ byte_at c i
    other_slots i lo = same.others i (inr (omega (arith, half_low l.slots (other_half l.half), header_low (other_half l.half))))

  -- a write of the other header's gate, which is open
  closing : (c d : Content) → SameOutside gate 1 c d → byte_at c gate ≡ 1 → IsLaidOut l c → IsLaidOut l d
  closing c d same held out = elim (cases_eq (byte_at d gate) 1) [
    | inl still ↦
        let headers : Agree 0 128 c d = λ i lo hi. elim (cases_lt i gate) [
          | inl below ↦ same.others i (inl below)
          | inr le ↦ elim (cases_eq i gate) [ inl is ↦ ap (byte_at d) is ∙ still ∙ sym held ∙ ap (byte_at c) (sym is) | inr not ↦ same.others i (inr (omega arith)) ]
        ] in
        same_laid_out l c d fits headers (λ k lt. own_half gate 1 (omega arith) (omega arith) c d same (gate_at l.slots l.half k) (omega arith) (omega arith)) out
    | inr shut ↦ stays c d (own_header gate 1 (omega arith) (omega arith) c d same) (own_half gate 1 (omega arith) (omega arith) c d same) shut out
  ]

  closing_kept : (c d : Content) → SameOutside gate 1 c d → kept_by l d ≡ kept_by l c
  closing_kept c d same = stays_kept c d (own_half gate 1 (omega arith) (omega arith) c d same)

  low : gate + 1 ≤ end
  low = omega (arith, header_low (other_half l.half))

  -- Closing the other header's gate, from a settled journal. The read changes nothing.
  module _ (own_gate : ℕ) (old mid : DiskState) (lawful : IsLawful old) (lawful_mid : IsLawful mid) (sound : IsSoundAs Settled own_gate l old) (read : Steps Same old mid) where
    read_stands : (c : Content) → mid.may_leave c → Stands l old.seen c × SameBefore end old.seen c
    read_stands c now = let from = read.crash c now in subst (λ (e : Content). Stands l old.seen e × SameBefore end old.seen e) (sym from.2) (sound from.0 from.1)

    read_moments : Leaves old mid (λ c. opens_by l c ≡ records l.version (kept_by l old.seen))
    read_moments = leaves_as old mid (After Same old.may_leave) (λ c. opens_by l c ≡ records l.version (kept_by l old.seen)) (changes_at Same old mid read).any_moment (λ c after.
        let stood = (sound after.0 after.1).0 in
        ap (opens_by l) after.2 ∙ laid_out_opens l after.0 fits stood.laid_out ∙ ap (records l.version) stood.same_records)

    read_past : ChangesBy (SameFrom end) old mid
    read_past = past_same end old mid lawful.reads_as (changes_at Same old mid read)

    pub only_read : KeepsRecords l old mid
    only_read = record {
      stands = λ c now. let stood = (read_stands c now).0 in record { whole = stood.whole; laid_out = stood.laid_out; same_records = stood.same_records ∙ sym (ap (kept_by l) read.reads) };
      same_records = ap (kept_by l) read.reads;
      any_moment = read_moments;
      past = read_past;
    }

    -- the gate is closed in each image, where it is in what a read gives
    pub shut_in_each : byte_at old.seen gate ≢ 1 → Every mid.may_leave (λ c. byte_at c gate ≢ 1)
    shut_in_each not c now is = not (sym ((read_stands c now).1 gate (omega (arith, low))) ∙ is)

    module _ (held : byte_at old.seen gate ≡ 1) (new : DiskState) (change : ChangesBy (TornWrite gate 1) mid new) where
      closed_stands : (c : Content) → After (TornWrite gate 1) mid.may_leave c → Stands l old.seen c
      closed_stands c (d, was, torn) =
          let stood = read_stands d was in
          let same = torn_same gate 1 d c (let whole = stood.0.whole in omega (arith, low)) torn in
          record {
            whole = let whole = stood.0.whole in let size = same.same_length in omega arith;
            laid_out = closing d c same (stood.1 gate (omega (arith, low)) ∙ held) stood.0.laid_out;
            same_records = closing_kept d c same ∙ stood.0.same_records;
          }

      closed_new : Stands l old.seen new.seen
      closed_new = closed_stands new.seen (mid.seen, lawful_mid.reads_as, change.reads)

      pub closing_other : KeepsRecords l old new
      closing_other = record {
        stands = λ c now. let stood = closed_stands c (change.crash c now) in record { whole = stood.whole; laid_out = stood.laid_out; same_records = stood.same_records ∙ sym closed_new.same_records };
        same_records = closed_new.same_records;
        any_moment = leaves_then old mid new (λ c. opens_by l c ≡ records l.version (kept_by l old.seen)) read_moments
            (leaves_as mid new (After (TornWrite gate 1) mid.may_leave) (λ c. opens_by l c ≡ records l.version (kept_by l old.seen)) change.any_moment (λ c after.
            let stood = closed_stands c after in laid_out_opens l c fits stood.laid_out ∙ ap (records l.version) stood.same_records));
        past = past_then end old mid new read_past (past_write gate 1 end mid new low lawful_mid.reads_as (λ d was. (read_stands d was).0.whole) change);
      }

  -- filling the other half
  filled_header : (c d : Content) → SameOutside start (64 * l.slots) c d → Agree 0 128 c d
  filled_header c d same i lo hi = same.others i (inl (omega (arith, half_low l.slots (other_half l.half))))

  filled_half : (c d : Content) → SameOutside start (64 * l.slots) c d → Agree (half_at l.slots l.half) (half_at l.slots l.half + 64 * l.slots) c d
  filled_half c d same i lo hi = same.others i (elim (halves_apart l.slots l.half) [ inl below ↦ inr (omega arith) | inr above ↦ inl (omega arith) ])

  filled_out : (c d : Content) → SameOutside start (64 * l.slots) c d → IsLaidOut l c → IsLaidOut l d
  filled_out c d same out = same_laid_out l c d fits (filled_header c d same) (λ k lt. filled_half c d same (gate_at l.slots l.half k) (omega arith) (omega arith)) out

  -- after the calls so far, the other half is filled
  module _ (old mid new : DiskState) (lawful_mid : IsLawful mid) (keeps : KeepsRecords l old mid) (change : ChangesBy (TornWrite start (64 * l.slots)) mid new) where
    high : start + 64 * l.slots ≤ end
    high = omega (arith, half_high l.slots (other_half l.half))

    fill_same : (d c : Content) → mid.may_leave d → TornWrite start (64 * l.slots) d c → SameOutside start (64 * l.slots) d c
    fill_same d c was torn = torn_same start (64 * l.slots) d c (let whole = (keeps.stands d was).whole in omega (arith, high)) torn

    fill_stands : (c : Content) → After (TornWrite start (64 * l.slots)) mid.may_leave c → Stands l old.seen c
    fill_stands c (d, was, torn) =
        let stood = keeps.stands d was in
        let same = fill_same d c was torn in
        record {
          whole = let whole = stood.whole in let size = same.same_length in omega arith;
          laid_out = filled_out d c same stood.laid_out;
          same_records = stays_kept d c (filled_half d c same) ∙ stood.same_records ∙ keeps.same_records;
        }

    fill_new : Stands l old.seen new.seen
    fill_new = fill_stands new.seen (mid.seen, lawful_mid.reads_as, change.reads)

    pub filling : KeepsRecords l old new
    filling = record {
      stands = λ c now. let stood = fill_stands c (change.crash c now) in record { whole = stood.whole; laid_out = stood.laid_out; same_records = stood.same_records ∙ sym fill_new.same_records };
      same_records = fill_new.same_records;
      any_moment = leaves_then old mid new (λ c. opens_by l c ≡ records l.version (kept_by l old.seen)) keeps.any_moment
          (leaves_as mid new (After (TornWrite start (64 * l.slots)) mid.may_leave) (λ c. opens_by l c ≡ records l.version (kept_by l old.seen)) change.any_moment (λ c after.
          let stood = fill_stands c after in laid_out_opens l c fits stood.laid_out ∙ ap (records l.version) stood.same_records));
      past = past_then end old mid new keeps.past (past_write start (64 * l.slots) end mid new high lawful_mid.reads_as (λ d was. (keeps.stands d was).whole) change);
    }

    pub is_filled : (bodies : List (List ℕ)) → Every mid.may_leave (λ c. byte_at c gate ≢ 1) → Only new.seen new.may_leave
        → ((k : ℕ) → k < l.slots → bytes_at new.seen (start + 64 * k) 64 ≡ slot_of bodies k) → IsFilled l bodies new
    is_filled bodies shut only slots = record {
      durable = only;
      whole = fill_new.whole;
      laid_out = fill_new.laid_out;
      shut = λ is. shut mid.seen lawful_mid.reads_as (sym (filled_header mid.seen new.seen (fill_same mid.seen new.seen lawful_mid.reads_as change.reads) gate (omega arith) (omega (arith, header_low (other_half l.half)))) ∙ is);
      slots = slots;
    }

-- Some calls that kept the records, and that failed.
pub kept_failed : {T E : Type 0} (l : Layout) (own_gate : ℕ) (after : List (List ℕ)) (old new : DiskState) (result : Result T E) (fault : E) → result ≡ Err fault → KeepsRecords l old new → MovesAs result after (records 2 after) l l Pending own_gate old new
kept_failed l own_gate after old new result fault is keeps = record {
  sound = keeps.stands;
  done = err_only _ result fault is;
  failed = on_err result keeps.same_records;
  undecided = on_err result (inl (ap (records l.version) keeps.same_records));
  any_moment = leaves_as old new (λ c. opens_by l c ≡ records l.version (kept_by l old.seen)) (OpensToEither l (kept_by l old.seen) 2 after) keeps.any_moment (λ c is. inl is);
  past = keeps.past;
}

-- and then a call of the journal
pub kept_then : {T E : Type 0} (result : Result T E) (l l' : Layout) (standing : Standing) (last : ℕ) (after : List (List ℕ)) (old mid new : DiskState) → KeepsRecords l old mid → MovesAs result after (records 2 after) l l' standing last mid new
    → MovesAs result after (records 2 after) l l' standing last old new
kept_then result l l' standing last after old mid new keeps moves = record {
  sound = moves.sound;
  done = moves.done;
  failed = on_err_weaker result (λ same. same ∙ keeps.same_records) moves.failed;
  undecided = on_err_weaker result (λ either. elim either [ inl was ↦ inl (was ∙ ap (records l.version) keeps.same_records) | inr now ↦ inr now ]) moves.undecided;
  any_moment = leaves_then old mid new (OpensToEither l (kept_by l old.seen) 2 after)
      (leaves_as old mid (λ c. opens_by l c ≡ records l.version (kept_by l old.seen)) (OpensToEither l (kept_by l old.seen) 2 after) keeps.any_moment (λ c is. inl is))
      (leaves_as mid new (OpensToEither l (kept_by l mid.seen) 2 after) (OpensToEither l (kept_by l old.seen) 2 after) moves.any_moment (λ c either.
      elim either [ inl was ↦ inl (was ∙ ap (records l.version) keeps.same_records) | inr now ↦ inr now ]));
  past = past_then (journal_length l.slots) old mid new keeps.past moves.past;
}

-- The other half is filled, and its header is written and opened.
module _ (l : Layout) (fits : l.count ≤ l.slots) (small : l.generation < 2 ^ 64) (digest_size : length l.digest ≡ 32) (bodies : List (List ℕ)) (few : length bodies ≤ l.slots)
    (long : (i : ℕ) → i < length bodies → length (get_or bodies i []) ≡ 63) (old mid : DiskState) (lawful : IsLawful old) (filled : IsFilled l bodies old) (own_gate : ℕ)
    (title : List ℕ) (first : ChangesBy (TornWrite (header_at (other_half l.half)) 63) old mid) where
  abbrev number : ℕ
  number = (l.generation + 1) % 2 ^ 64

  abbrev switched : Layout
  switched = record { slots = l.slots; half = other_half l.half; count = length bodies; version = 2; generation = number; digest = l.digest }

  in_journal : header_at (other_half l.half) + 64 ≤ journal_length l.slots
  in_journal = omega (arith, header_low (other_half l.half))

  -- the header's body is written, behind its closed gate
  titled : (c : Content) → SameOutside (header_at (other_half l.half)) 63 old.seen c → Stands l old.seen c
  titled c same = record {
    whole = let whole = filled.whole in let size = same.same_length in omega arith;
    laid_out = stays l fits old.seen c (own_header l fits (header_at (other_half l.half)) 63 (omega arith) (omega arith) old.seen c same) (own_half l fits (header_at (other_half l.half)) 63 (omega arith) (omega arith) old.seen c same)
        (λ is. filled.shut (sym (same.others (header_gate (other_half l.half)) (inr (omega arith))) ∙ is)) filled.laid_out;
    same_records = stays_kept l fits old.seen c (own_half l fits (header_at (other_half l.half)) 63 (omega arith) (omega arith) old.seen c same);
  }

  title_same : (c : Content) → TornWrite (header_at (other_half l.half)) 63 old.seen c → SameOutside (header_at (other_half l.half)) 63 old.seen c
  title_same c torn = torn_same (header_at (other_half l.half)) 63 old.seen c (let whole = filled.whole in omega (arith, in_journal)) torn

  title_stands : (c : Content) → After (TornWrite (header_at (other_half l.half)) 63) old.may_leave c → Stands l old.seen c
  title_stands c after = titled c (title_same c (from_only (TornWrite (header_at (other_half l.half)) 63) old c filled.durable after))

  mid_same : SameOutside (header_at (other_half l.half)) 63 old.seen mid.seen
  mid_same = title_same mid.seen first.reads

  mid_stands : Stands l old.seen mid.seen
  mid_stands = titled mid.seen mid_same

  titling : KeepsRecords l old mid
  titling = record {
    stands = λ c now. let stood = title_stands c (first.crash c now) in record { whole = stood.whole; laid_out = stood.laid_out; same_records = stood.same_records ∙ sym mid_stands.same_records };
    same_records = mid_stands.same_records;
    any_moment = leaves_as old mid (After (TornWrite (header_at (other_half l.half)) 63) old.may_leave) (λ c. opens_by l c ≡ records l.version (kept_by l old.seen)) first.any_moment (λ c after.
        let stood = title_stands c after in laid_out_opens l c fits stood.laid_out ∙ ap (records l.version) stood.same_records);
    past = past_write (header_at (other_half l.half)) 63 (journal_length l.slots) old mid (omega (arith, in_journal)) lawful.reads_as (λ d was. subst (λ (e : Content). journal_length l.slots ≤ length e) (sym (filled.durable d was)) filled.whole) first;
  }

  pub title_failed : {T E : Type 0} (result : Result T E) (fault : E) → result ≡ Err fault → MovesAs result bodies (records 2 bodies) l l Pending own_gate old mid
  title_failed result fault is = kept_failed l own_gate bodies old mid result fault is titling

  -- the header's body is on the disk, and its gate is written
  module _ (is_title : title ≡ magic 2 ++ to_be_bytes w64 number ++ l.digest ++ replicate 15 0) (put : bytes_at mid.seen (header_at (other_half l.half)) 63 ≡ title) (only_mid : Only mid.seen mid.may_leave)
      (lawful_mid : IsLawful mid) (new : DiskState) (second : ChangesBy (TornWrite (header_at (other_half l.half) + 63) 1) mid new) where
    abbrev mark : ℕ
    mark = header_at (other_half l.half) + 63

    says : (c : Content) → SameOutside mark 1 mid.seen c → IsHeader (header_at (other_half l.half)) number l.digest c
    says c same = is_header (header_at (other_half l.half)) number l.digest c digest_size
        (same_bytes mid.seen c (header_at (other_half l.half)) 63 (λ i lo hi. same.others i (inl hi))
        ∙ put ∙ is_title)

    near_kept : (c : Content) → SameOutside mark 1 mid.seen c → kept_by l c ≡ kept_by l old.seen
    near_kept c same = closing_kept l fits mid.seen c same ∙ mid_stands.same_records

    near_shut : (c : Content) → SameOutside mark 1 mid.seen c → byte_at c mark ≢ 1 → IsLaidOut l c
    near_shut c same not = stays l fits mid.seen c (own_header l fits mark 1 (omega arith) (omega arith) mid.seen c same) (own_half l fits mark 1 (omega arith) (omega arith) mid.seen c same) not mid_stands.laid_out

    near_slots : (c : Content) → SameOutside mark 1 mid.seen c → Agree (half_at l.slots (other_half l.half)) (journal_length l.slots) old.seen c
    near_slots c same i lo hi =
        other_slots l fits mark 1 (omega arith) (omega arith) mid.seen c same i lo ∙ other_slots l fits (header_at (other_half l.half)) 63 (omega arith) (omega arith) old.seen mid.seen mid_same i lo

    near_filled : (c : Content) → SameOutside mark 1 mid.seen c → (k : ℕ) → k < l.slots → bytes_at c (half_at l.slots (other_half l.half) + 64 * k) 64 ≡ slot_of bodies k
    near_filled c same k lt = same_bytes old.seen c (half_at l.slots (other_half l.half) + 64 * k) 64 (λ i lo hi. near_slots c same i (omega arith) (omega (arith, half_high l.slots (other_half l.half)))) ∙ filled.slots k lt

    near_out : (c : Content) → SameOutside mark 1 mid.seen c → byte_at c mark ≡ 1 → IsLaidOut switched c
    near_out c same held =
        let base = mid_stands.laid_out in
        let own = own_header l fits mark 1 (omega arith) (omega arith) mid.seen c same in
        let header = says c same in
        record {
          in_force = next_in_force c l.half l.generation small (same_counts mid.seen c (header_at l.half) own ∙ force_counts mid.seen l.half base.in_force) (header_counts (header_at (other_half l.half)) number l.digest c header held)
              (same_generation mid.seen c (header_at l.half) own ∙ base.same_generation) (header_generation (header_at (other_half l.half)) number l.digest c (omega arith) header);
          same_version = header_version (header_at (other_half l.half)) number l.digest c header;
          same_generation = header_generation (header_at (other_half l.half)) number l.digest c (omega arith) header;
          same_digest = header.digests;
          opens = filled_open c (half_at l.slots (other_half l.half)) l.slots bodies few long (near_filled c same);
          shut = λ k lo hi is. let zero_there = filled_shut c (half_at l.slots (other_half l.half)) l.slots bodies few long (near_filled c same) k lo hi in absurd (omega arith);
        }

    near_bodies : (c : Content) → SameOutside mark 1 mid.seen c → kept_by switched c ≡ bodies
    near_bodies c same = filled_bodies c (half_at l.slots (other_half l.half)) l.slots bodies few long (near_filled c same)

    near_open : (c : Content) → SameOutside mark 1 mid.seen c → byte_at c mark ≡ 1 → opens_by l c ≡ records 2 bodies
    near_open c same held = laid_out_opens switched c few (near_out c same held) ∙ ap (records 2) (near_bodies c same)

    either_mid : Leaves old mid (OpensToEither l (kept_by l old.seen) 2 bodies)
    either_mid = leaves_as old mid (λ c. opens_by l c ≡ records l.version (kept_by l old.seen)) (OpensToEither l (kept_by l old.seen) 2 bodies) titling.any_moment (λ c is. inl is)

    pub mark_failed : {T E : Type 0} (result : Result T E) (fault : E) → result ≡ Err fault → MovesAs result bodies (records 2 bodies) l l Undecided mark old new
    mark_failed result fault is = undecided l fits mark (omega (arith, in_journal)) 2 bodies old mid new either_mid titling.past only_mid lawful_mid second mid_stands.whole near_kept near_shut near_open result fault is

    pub is_switched : {T E : Type 0} (value : T) → new.seen ≡ written mark (1 ∷ []) mid.seen → Only new.seen new.may_leave → MovesAs {T = T} {E = E} (Ok value) bodies (records 2 bodies) l switched Settled mark old new
    is_switched value opened only =
        let same : SameOutside mark 1 mid.seen new.seen = torn_same mark 1 mid.seen new.seen (let whole = mid_stands.whole in omega (arith, in_journal)) second.reads in
        decided l fits mark (omega (arith, in_journal)) 2 bodies old mid new either_mid titling.past only_mid lawful_mid second mid_stands.whole near_kept near_shut near_open value switched refl near_out (near_bodies new.seen same) opened only
