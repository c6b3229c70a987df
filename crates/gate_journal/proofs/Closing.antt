-- What makes a journal settled again.
use Rattle.std.proofs.Common.{◌≡◌, ◌≢◌, ◌⊎◌, ℕ, ◌<◌, ◌≤◌, List, [], ◌∷◌, length, get_or, set, Result, Ok, Err, refl, sym, ◌∙◌, ap, subst, arith, inl, inr}
use Rattle.std.proofs.lemmas.Bool.{cases_eq}
use Rattle.disk_model.specs.Content.{Content, byte_at, written, TornWrite, Same}
use Rattle.disk_model.specs.Images.{DiskState, Every, Only, After, Leaves, Steps, ChangesBy, IsLawful}
use Rattle.disk_model.specs.Moments.{leaves_as, changes_at}
use Rattle.gate_journal.specs.declared.standing.Standing.{Standing}
use Rattle.gate_journal.specs.declared.standing.Standing.TheVariants.{Settled, Pending, Undecided}
use Rattle.gate_journal.specs.Calls.{MovesAs}
use Rattle.gate_journal.specs.Layout.{Layout, journal_length}
use Rattle.gate_journal.specs.Opened.{records}
use Rattle.gate_journal.specs.Sound.{IsLaidOut, IsSoundAs, Stands, Wavers, SameOutside, SameBefore, SameFrom, kept_by, opens_by, with_gate, other_as}
use Rattle.gate_journal.proofs.Gates.{laid_out_opens}
use Rattle.gate_journal.proofs.Places.{same_here, same_then, torn_same, written_bytes, set_same, set_here}
use Rattle.gate_journal.proofs.Steps.{err_only, on_err, past_write, past_same}

module _ (l : Layout) (fits : l.count ≤ l.slots) (gate : ℕ) (low : gate < journal_length l.slots) (old new : DiskState) (lawful : IsLawful old) where
  abbrev end : ℕ
  end = journal_length l.slots

  -- a gate is undecided, and is written
  module _ (sound : IsSoundAs Undecided gate l old) (change : ChangesBy (TornWrite gate 1) old new) where
    same : (d c : Content) → old.may_leave d → TornWrite gate 1 d c → SameOutside gate 1 d c
    same d c was torn = torn_same gate 1 d c (let whole = (sound d was d (same_here gate 1 d)).whole in omega arith) torn

    wavers : (c : Content) → After (TornWrite gate 1) old.may_leave c → Wavers l gate old.seen c
    wavers c (d, was, torn) = sound d was c (same d c was torn)

    same_new : SameOutside gate 1 old.seen new.seen
    same_new = same old.seen new.seen lawful.reads_as change.reads

    wavers_new : Wavers l gate old.seen new.seen
    wavers_new = sound old.seen lawful.reads_as new.seen same_new

    same_gate : with_gate l gate new.seen ≡ with_gate l gate old.seen
    same_gate = (sound old.seen lawful.reads_as (set new.seen gate 1) (same_then gate 1 old.seen new.seen (set new.seen gate 1) same_new (set_same gate 1 new.seen))).opens
        (set_here gate 1 new.seen (let whole = wavers_new.whole in omega arith))

    moments : Leaves old new (λ c. (opens_by l c ≡ records l.version (kept_by l old.seen)) ⊎ (opens_by l c ≡ with_gate l gate old.seen))
    moments = leaves_as old new (After (TornWrite gate 1) old.may_leave) (λ c. (opens_by l c ≡ records l.version (kept_by l old.seen)) ⊎ (opens_by l c ≡ with_gate l gate old.seen)) change.any_moment (λ c torn.
        let wavering = wavers c torn in
        elim (cases_eq (byte_at c gate) 1) [
          | inl held ↦ inr (wavering.opens held)
          | inr not ↦ inl (laid_out_opens l c fits (wavering.shut not) ∙ ap (records l.version) wavering.same_records)
        ])

    past : ChangesBy (SameFrom end) old new
    past = past_write gate 1 end old new (omega arith) lawful.reads_as (λ d was. (sound d was d (same_here gate 1 d)).whole) change

    pub close_failed : {T E : Type 0} (result : Result T E) (fault : E) → result ≡ Err fault → MovesAs result (kept_by l old.seen) (with_gate l gate old.seen) l l Undecided gate old new
    close_failed result fault is = record {
      sound = λ d now c step.
          let from = change.crash d now in
          let wavering = sound from.0 from.1 c (same_then gate 1 from.0 d c (same from.0 d from.1 from.2) step) in
          record {
            whole = wavering.whole;
            same_records = wavering.same_records ∙ sym wavers_new.same_records;
            shut = wavering.shut;
            opens = λ held. wavering.opens held ∙ sym same_gate;
          };
      done = err_only _ result fault is;
      failed = on_err result wavers_new.same_records;
      undecided = on_err result (inr same_gate);
      any_moment = moments;
      past = past;
    }

    pub closed : {T E : Type 0} (value : T) → new.seen ≡ written gate (0 ∷ []) old.seen → Only new.seen new.may_leave → MovesAs {T = T} {E = E} (Ok value) (kept_by l old.seen) (with_gate l gate old.seen) l l Settled gate old new
    closed value shut only = record {
      sound = λ c now. subst (λ (e : Content). Stands l new.seen e × SameBefore end new.seen e) (sym (only c now))
          (record { whole = wavers_new.whole; laid_out = wavers_new.shut (λ held. let zero_there = is_shut in omega arith); same_records = refl }, λ i lt. refl);
      done = wavers_new.same_records;
      failed = tt;
      undecided = tt;
      any_moment = moments;
      past = past;
    }
      where
        is_shut : byte_at new.seen gate ≡ 0
        is_shut = ap (λ (bytes : List ℕ). get_or bytes 0 0) (written_bytes gate (0 ∷ []) old.seen new.seen shut)

  -- no gate is undecided, and nothing is written
  module _ (standing : Standing) (quiet : standing ≢ Undecided) (sound : IsSoundAs standing gate l old) (steps : Steps Same old new) where
    stands_by : (s : Standing) → s ≢ Undecided → IsSoundAs s gate l old → Every old.may_leave (Stands l old.seen)
    stands_by Settled not all = λ c now. (all c now).0
    stands_by Pending not all = all
    stands_by Undecided not all = absurd (not refl)

    pub quiet_other : (s : Standing) → s ≢ Undecided → (c : Content) → other_as s gate l c ≡ records l.version (kept_by l c)
    quiet_other Settled not c = refl
    quiet_other Pending not c = refl
    quiet_other Undecided not c = absurd (not refl)

    same_kept : kept_by l new.seen ≡ kept_by l old.seen
    same_kept = ap (kept_by l) steps.reads

    stands : (c : Content) → After Same old.may_leave c → Stands l old.seen c
    stands c (d, was, is) = subst (Stands l old.seen) (sym is) (stands_by standing quiet sound d was)

    other_records : records l.version (kept_by l old.seen) ≡ other_as standing gate l old.seen
    other_records = sym (quiet_other standing quiet old.seen)

    still_moments : Leaves old new (λ c. (opens_by l c ≡ records l.version (kept_by l old.seen)) ⊎ (opens_by l c ≡ other_as standing gate l old.seen))
    still_moments = leaves_as old new (After Same old.may_leave) (λ c. (opens_by l c ≡ records l.version (kept_by l old.seen)) ⊎ (opens_by l c ≡ other_as standing gate l old.seen)) (changes_at Same old new steps).any_moment (λ c after.
        let stood = stands c after in inl (laid_out_opens l c fits stood.laid_out ∙ ap (records l.version) stood.same_records))

    pub sync_failed : {T E : Type 0} (result : Result T E) (fault : E) → result ≡ Err fault → MovesAs result (kept_by l old.seen) (other_as standing gate l old.seen) l l Pending gate old new
    sync_failed result fault is = record {
      sound = λ c now. let stood = stands c (steps.crash c now) in record { whole = stood.whole; laid_out = stood.laid_out; same_records = stood.same_records ∙ sym same_kept };
      done = err_only _ result fault is;
      failed = on_err result same_kept;
      undecided = on_err result (inl (ap (records l.version) same_kept));
      any_moment = still_moments;
      past = past_same end old new lawful.reads_as (changes_at Same old new steps);
    }

    pub synced : {T E : Type 0} (value : T) → Only new.seen new.may_leave → MovesAs {T = T} {E = E} (Ok value) (kept_by l old.seen) (other_as standing gate l old.seen) l l Settled gate old new
    synced value only = record {
      sound = λ c now. let stood = stands c (steps.crash c now) in
          subst (λ (e : Content). Stands l new.seen e × SameBefore end new.seen e) (sym (only c now))
          (record { whole = subst (λ (e : Content). end ≤ length e) (only c now) stood.whole; laid_out = subst (λ (e : Content). IsLaidOut l e) (only c now) stood.laid_out; same_records = refl }, λ i lt. refl);
      done = same_kept;
      failed = tt;
      undecided = tt;
      any_moment = still_moments;
      past = past_same end old new lawful.reads_as (changes_at Same old new steps);
    }
