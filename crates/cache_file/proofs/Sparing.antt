-- What the calls of a file leave as it was: blobs, and records where only blobs are written or read.
use Rattle.std.proofs.Common.{◌≡◌, ◌⊎◌, ℕ, ◌+◌, ◌<◌, ◌≤◌, List, length, sym, ◌∙◌, ap, subst, arith, inl, inr}
use Rattle.disk_model.specs.Content.{Content, Same, TornWrite, IsOutside}
use Rattle.disk_model.specs.Images.{DiskState, Every, After, Leaves, ChangesBy, Steps}
use Rattle.disk_model.specs.Moments.{changes_at, leaves_as}
use Rattle.disk_model.proofs.Reading.{bytes_at-same}
use Rattle.gate_journal.specs.declared.journal.Journal.{Journal}
use Rattle.gate_journal.specs.declared.standing.Standing.{Standing}
use Rattle.gate_journal.specs.declared.standing.Standing.TheVariants.{Settled, Pending, Undecided}
use Rattle.gate_journal.specs.Layout.{Layout, journal_length}
use Rattle.gate_journal.specs.Opened.{records}
use Rattle.gate_journal.specs.Sound.{IsSettled, IsSound, IsSoundAs, SameFrom, layout_of, other_as, slots_of, version_of}
use Rattle.gate_journal.proofs.Behind.{sound_opens, stays_behind, stays_read}
use Rattle.gate_journal.proofs.Places.{same_here}
use Rattle.cache_file.specs.File.{Anywhere, HasBlobAt, HasHeld, IsApart, Stays, held, opens_to, unsure}

-- two facts at each moment are one
pub leaves_both : (old new : DiskState) (P Q : Content → Type 0) → Leaves old new P → Leaves old new Q → Leaves old new (λ c. P c × Q c)
leaves_both old new P Q one two = record {
  later = one.later;
  each = λ t c le left. elim (one.each t c le left) [
    | inl was ↦ inl was
    | inr p ↦ elim (two.each t c le left) [ inl was ↦ inl was | inr q ↦ inr (p, q) ]
  ];
}

-- each image of any journal has it whole
whole_as : (standing : Standing) (gate : ℕ) (l : Layout) (disk : DiskState) → IsSoundAs standing gate l disk → Every disk.may_leave (λ c. journal_length l.slots ≤ length c)
whole_as Settled gate l disk sound c now = (sound c now).0.whole
whole_as Pending gate l disk sound c now = (sound c now).whole
whole_as Undecided gate l disk sound c now = (sound c now c (same_here gate 1 c)).whole

pub whole_now : (start : ℕ) (j : Journal) (disk : DiskState) → start ≡ journal_length (slots_of j) → IsSound j disk → Every disk.may_leave (λ c. start ≤ length c)
whole_now start j disk begins sound c now = let whole = whole_as j.standing j.gate (layout_of j) disk sound c now in omega arith

-- A step that leaves the bytes of the blobs that are spared.
module _ (step : Content → Content → Type 0) (start : ℕ) (spared : ℕ → ℕ → Type 0) (old new : DiskState)
    (longer : (d c : Content) → step d c → length d ≤ length c)
    (leaves : (place : ℕ) (blob : List ℕ) (d c : Content) → spared place (length blob) → step d c → HasBlobAt (start + place) blob d → HasBlobAt (start + place) blob c)
    (whole : Every old.may_leave (λ d. start ≤ length d)) (change : ChangesBy step old new) where
  has_after : Every (After step old.may_leave) (HasHeld start spared old)
  has_after c (d, was, steps) = record {
    whole = let long = whole d was in let more = longer d c steps in omega arith;
    blobs = λ place blob is holds. leaves place blob d c is steps (holds d was);
  }

  has_now : Every new.may_leave (HasHeld start spared old)
  has_now c now = has_after c (change.crash c now)

  has_then : Leaves old new (HasHeld start spared old)
  has_then = leaves_as old new (After step old.may_leave) (HasHeld start spared old) change.any_moment has_after

-- a change before the blobs
past_blob : (start place : ℕ) (blob : List ℕ) (d c : Content) → Anywhere place (length blob) → SameFrom start d c → HasBlobAt (start + place) blob d → HasBlobAt (start + place) blob c
past_blob start place blob d c any same has = record {
  bytes = bytes_at-same c d (start + place) (length blob) (λ i lo hi. same.others i (omega arith)) ∙ has.bytes;
  within = λ some. let was = has.within some in let size = same.same_length in omega arith;
}

past_longer : (start : ℕ) (d c : Content) → SameFrom start d c → length d ≤ length c
past_longer start d c same = let size = same.same_length in omega arith

module _ (start : ℕ) (old new : DiskState) (whole : Every old.may_leave (λ d. start ≤ length d)) (change : ChangesBy (SameFrom start) old new) where
  pub past_now : Every new.may_leave (HasHeld start Anywhere old)
  past_now = has_now (SameFrom start) start Anywhere old new (past_longer start) (past_blob start) whole change

  pub past_then : Leaves old new (HasHeld start Anywhere old)
  past_then = has_then (SameFrom start) start Anywhere old new (past_longer start) (past_blob start) whole change

-- no change
same_blob : (start place : ℕ) (blob : List ℕ) (d c : Content) → Anywhere place (length blob) → Same d c → HasBlobAt (start + place) blob d → HasBlobAt (start + place) blob c
same_blob start place blob d c any is has = subst (HasBlobAt (start + place) blob) (sym is) has

same_longer : (d c : Content) → Same d c → length d ≤ length c
same_longer d c is = let size : length c ≡ length d = ap length is in omega arith

-- a write, torn or not, in a range that a blob doesn't meet
outside : (at n place size i : ℕ) → IsApart at n place size → place ≤ i → i < place + size → IsOutside at n i
outside at n place size i (inl before) lo hi = inl (omega arith)
outside at n place size i (inr behind) lo hi = inr (omega arith)

further : (start place n at m : ℕ) → IsApart place n at m → IsApart (start + place) n (start + at) m
further start place n at m (inl before) = inl (omega arith)
further start place n at m (inr behind) = inr (omega arith)

apart_blob : (start place n at : ℕ) (blob : List ℕ) (d c : Content) → IsApart place n at (length blob) → TornWrite (start + place) n d c → HasBlobAt (start + at) blob d → HasBlobAt (start + at) blob c
apart_blob start place n at blob d c apart torn has = record {
  bytes =
      bytes_at-same c d (start + at) (length blob) (λ i lo hi.
      torn.others i (let was = has.within (omega arith) in omega arith) (outside (start + place) n (start + at) (length blob) i (further start place n at (length blob) apart) lo hi)) ∙ has.bytes;
  within = λ some. let was = has.within some in let longer = torn.no_shorter in omega arith;
}

-- of a settled journal nothing is unsure
pub settled_sure : (j : Journal) (disk : DiskState) → IsSettled j → unsure j disk ≡ held j disk
settled_sure j disk settled = ap (λ s. other_as s j.gate (layout_of j) disk.seen) settled

-- A blob is put behind a settled journal.
pub stays_put : (start place n : ℕ) (j : Journal) (old new : DiskState) → start ≡ journal_length (slots_of j) → IsSettled j → IsSound j old → old.may_leave old.seen
    → ChangesBy (TornWrite (start + place) n) old new → Stays start (IsApart place n) j old new
stays_put start place n j old new begins settled sound reads change =
    let behind : journal_length (slots_of j) ≤ start + place = omega arith in
    let stayed = stays_behind j (start + place) n old new settled sound reads behind change in
    let same : held j new ≡ held j old = ap (records (version_of j)) stayed.1 in
    let whole = whole_now start j old begins sound in
    let longer : (d c : Content) → TornWrite (start + place) n d c → length d ≤ length c = λ d c torn. torn.no_shorter in
    record {
      sound = stayed.0;
      same_records = same;
      same_unsure = settled_sure j new settled ∙ same ∙ sym (settled_sure j old settled);
      keeps = has_now (TornWrite (start + place) n) start (IsApart place n) old new longer (apart_blob start place n) whole change;
      any_moment = leaves_both old new (λ c. (opens_to j c ≡ held j old) ⊎ (opens_to j c ≡ unsure j old)) (HasHeld start (IsApart place n) old)
          (leaves_as old new (λ c. opens_to j c ≡ held j old) (λ c. (opens_to j c ≡ held j old) ⊎ (opens_to j c ≡ unsure j old)) stayed.2 (λ c is. inl is))
          (has_then (TornWrite (start + place) n) start (IsApart place n) old new longer (apart_blob start place n) whole change);
    }

-- The disk is only read.
pub stays_same : (start : ℕ) (j : Journal) (old new : DiskState) → start ≡ journal_length (slots_of j) → IsSound j old → Steps Same old new → Stays start Anywhere j old new
stays_same start j old new begins sound steps =
    let whole = whole_now start j old begins sound in
    let change = changes_at Same old new steps in
    let stayed = stays_read j old new sound change in
    record {
      sound = stayed.0;
      same_records = ap (records (version_of j)) stayed.1;
      same_unsure = stayed.2;
      keeps = has_now Same start Anywhere old new same_longer (same_blob start) whole change;
      any_moment = leaves_both old new (λ c. (opens_to j c ≡ held j old) ⊎ (opens_to j c ≡ unsure j old)) (HasHeld start Anywhere old)
          (leaves_as old new (After Same old.may_leave) (λ c. (opens_to j c ≡ held j old) ⊎ (opens_to j c ≡ unsure j old)) change.any_moment
          (λ c from. subst (λ (d : Content). (opens_to j d ≡ held j old) ⊎ (opens_to j d ≡ unsure j old)) (sym from.2) (sound_opens j old sound from.0 from.1)))
          (has_then Same start Anywhere old new same_longer (same_blob start) whole change);
    }
