-- What the write of a gate leaves, that decides between the records from before and those after it.
use Rattle.std.proofs.Common.{◌≡◌, ◌≢◌, ◌⊎◌, ℕ, ◌+◌, ◌≤◌, List, [], ◌∷◌, length, get_or, set, Result, Ok, Err, refl, sym, ◌∙◌, ap, subst, arith, inl, inr}
use Rattle.std.proofs.lemmas.Bool.{cases_eq}
use Rattle.disk_model.specs.Content.{Content, byte_at, written, TornWrite}
use Rattle.disk_model.specs.Images.{DiskState, Only, After, Leaves, ChangesBy, IsLawful}
use Rattle.disk_model.specs.Moments.{leaves_as, leaves_then}
use Rattle.gate_journal.specs.declared.standing.Standing.TheVariants.{Settled, Undecided}
use Rattle.gate_journal.specs.Calls.{MovesAs}
use Rattle.gate_journal.specs.Layout.{Layout, journal_length}
use Rattle.gate_journal.specs.Opened.{records}
use Rattle.gate_journal.specs.Sound.{IsLaidOut, Stands, SameOutside, SameBefore, SameFrom, kept_by, opens_by, with_gate}
use Rattle.gate_journal.proofs.Gates.{laid_out_opens}
use Rattle.gate_journal.proofs.Places.{same_then, torn_same, written_bytes, set_same, set_here}
use Rattle.gate_journal.proofs.Steps.{err_only, on_err, from_only, past_write, past_then}

-- a content opens to the records, or to those after
abbrev pub OpensToEither : Layout → List (List ℕ) → ℕ → List (List ℕ) → Content → Type 0
OpensToEither l before version after c = (opens_by l c ≡ records l.version before) ⊎ (opens_by l c ≡ records version after)

-- The first calls led from old to mid, on which nothing is pending, and then the gate is written.
module _ (l : Layout) (fits : l.count ≤ l.slots) (gate : ℕ) (low : gate + 1 ≤ journal_length l.slots) (version : ℕ) (after : List (List ℕ)) (old mid new : DiskState)
    (first_moments : Leaves old mid (OpensToEither l (kept_by l old.seen) version after)) (first_past : ChangesBy (SameFrom (journal_length l.slots)) old mid)
    (only_mid : Only mid.seen mid.may_leave) (lawful_mid : IsLawful mid) (second : ChangesBy (TornWrite gate 1) mid new)
    (whole : journal_length l.slots ≤ length mid.seen)
    (same_records : (c : Content) → SameOutside gate 1 mid.seen c → kept_by l c ≡ kept_by l old.seen)
    (shut : (c : Content) → SameOutside gate 1 mid.seen c → byte_at c gate ≢ 1 → IsLaidOut l c)
    (opens : (c : Content) → SameOutside gate 1 mid.seen c → byte_at c gate ≡ 1 → opens_by l c ≡ records version after) where
  near : (c : Content) → After (TornWrite gate 1) mid.may_leave c → SameOutside gate 1 mid.seen c
  near c torn = torn_same gate 1 mid.seen c (omega (arith, low, whole)) (from_only (TornWrite gate 1) mid c only_mid torn)

  near_new : SameOutside gate 1 mid.seen new.seen
  near_new = torn_same gate 1 mid.seen new.seen (omega (arith, low, whole)) second.reads

  near_whole : (c : Content) → SameOutside gate 1 mid.seen c → journal_length l.slots ≤ length c
  near_whole c same = let long = same.same_length in omega (arith, whole)

  with_open : with_gate l gate new.seen ≡ records version after
  with_open = opens (set new.seen gate 1) (same_then gate 1 mid.seen new.seen (set new.seen gate 1) near_new (set_same gate 1 new.seen)) (set_here gate 1 new.seen (omega (arith, low, near_whole new.seen near_new)))

  moments : Leaves old new (OpensToEither l (kept_by l old.seen) version after)
  moments = leaves_then old mid new (OpensToEither l (kept_by l old.seen) version after) first_moments
      (leaves_as mid new (After (TornWrite gate 1) mid.may_leave) (OpensToEither l (kept_by l old.seen) version after) second.any_moment (λ c torn.
      elim (cases_eq (byte_at c gate) 1) [
        | inl held ↦ inr (opens c (near c torn) held)
        | inr not ↦ inl (laid_out_opens l c fits (shut c (near c torn) not) ∙ ap (records l.version) (same_records c (near c torn)))
      ]))

  past : ChangesBy (SameFrom (journal_length l.slots)) old new
  past = past_then (journal_length l.slots) old mid new first_past
      (past_write gate 1 (journal_length l.slots) mid new low lawful_mid.reads_as (λ d was. subst (λ (e : Content). journal_length l.slots ≤ length e) (sym (only_mid d was)) whole) second)

  -- the write failed
  pub undecided : {T E : Type 0} (result : Result T E) (fault : E) → result ≡ Err fault → MovesAs result after (records version after) l l Undecided gate old new
  undecided result fault is = record {
    sound = λ d now c step.
        let same = same_then gate 1 mid.seen d c (near d (second.crash d now)) step in
        record {
          whole = near_whole c same;
          same_records = same_records c same ∙ sym (same_records new.seen near_new);
          shut = shut c same;
          opens = λ held. opens c same held ∙ sym with_open;
        };
    done = err_only _ result fault is;
    failed = on_err result (same_records new.seen near_new);
    undecided = on_err result (inr with_open);
    any_moment = moments;
    past = past;
  }

  -- the gate is open on the disk
  pub decided : {T E : Type 0} (value : T) (l' : Layout) → l'.slots ≡ l.slots → ((c : Content) → SameOutside gate 1 mid.seen c → byte_at c gate ≡ 1 → IsLaidOut l' c) → kept_by l' new.seen ≡ after
      → new.seen ≡ written gate (1 ∷ []) mid.seen → Only new.seen new.may_leave → MovesAs {T = T} {E = E} (Ok value) after (records version after) l l' Settled gate old new
  decided value l' same_slots laid_out done put only = record {
    sound = λ c now. subst (λ (e : Content). Stands l' new.seen e × SameBefore (journal_length l'.slots) new.seen e) (sym (only c now)) (
      record {
        whole = subst (λ (n : ℕ). journal_length n ≤ length new.seen) (sym same_slots) (near_whole new.seen near_new);
        laid_out = laid_out new.seen near_new (ap (λ (bytes : List ℕ). get_or bytes 0 0) (written_bytes gate (1 ∷ []) mid.seen new.seen put));
        same_records = refl;
      },
      λ i lt. refl,
    );
    done = done;
    failed = tt;
    undecided = tt;
    any_moment = moments;
    past = past;
  }
