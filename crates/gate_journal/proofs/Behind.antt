-- What callers know of a journal beside its disk: what the images of a settled one open to, and that a write past it
-- leaves it as it was.
use Rattle.std.proofs.Common.{◌≡◌, ◌⊎◌, ℕ, zero, suc, ◌+◌, ◌≤◌, length, refl, sym, ◌∙◌, ap, subst, arith, inl, inr}
use Rattle.std.proofs.lemmas.Bool.{cases_eq}
use Rattle.disk_model.specs.Content.{Content, Same, byte_at, bytes_at, TornWrite}
use Rattle.disk_model.specs.Images.{DiskState, Every, After, Leaves, ChangesBy}
use Rattle.disk_model.specs.Moments.{leaves_as}
use Rattle.disk_model.proofs.Reading.{bytes_at-same}
use Rattle.gate_journal.specs.declared.journal.Journal.{Journal}
use Rattle.gate_journal.specs.declared.standing.Standing.{Standing}
use Rattle.gate_journal.specs.declared.standing.Standing.TheVariants.{Settled, Pending, Undecided}
use Rattle.gate_journal.specs.Layout.{Layout, half_at, gate_at, journal_length}
use Rattle.gate_journal.specs.Opened.{bodies_at, opened, records}
use Rattle.gate_journal.specs.Sound.{IsSoundAs, IsSound, Stands, Wavers, SameBefore, SameFrom, IsSettled, layout_of, kept, kept_by, opens_by, room_of, slots_of, digest_of, version_of, other, other_as}
use Rattle.gate_journal.proofs.Gates.{laid_out_opens}
use Rattle.gate_journal.proofs.Places.{half_high, same_here}
use Rattle.gate_journal.proofs.Same.{same_bodies, same_laid_out}

length-bodies_at : (c : Content) (at n : ℕ) → length (bodies_at c at n) ≡ n
length-bodies_at c at zero = refl
length-bodies_at c at (suc n) = ap suc (length-bodies_at c (at + 64) n)

-- its records and its room fill a half
pub fills_half : (j : Journal) (c : Content) → room_of j + length (kept j c) ≡ slots_of j
fills_half j c = let within = j.within in omega (arith, length-bodies_at c (half_at j.slots j.half) j.count)

-- each image of the disk of a settled journal opens to its records
pub settled_opens : (j : Journal) (disk : DiskState) → IsSettled j → IsSound j disk → Every disk.may_leave (λ c. opened (digest_of j) (slots_of j) c ≡ records (version_of j) (kept j disk.seen))
settled_opens j disk settled sound c now =
    let stood = (subst (λ s. IsSoundAs s j.gate (layout_of j) disk) settled sound c now).0 in
    laid_out_opens (layout_of j) c j.within stood.laid_out ∙ ap (records j.version) stood.same_records

-- Each image of the disk of any journal opens to its records, or to what is undecided.
sound_opens_as : (standing : Standing) (gate : ℕ) (l : Layout) (disk : DiskState) → l.count ≤ l.slots → IsSoundAs standing gate l disk
    → Every disk.may_leave (λ c. (opens_by l c ≡ records l.version (kept_by l disk.seen)) ⊎ (opens_by l c ≡ other_as standing gate l disk.seen))
sound_opens_as Settled gate l disk fits sound c now = let stood = (sound c now).0 in inl (laid_out_opens l c fits stood.laid_out ∙ ap (records l.version) stood.same_records)
sound_opens_as Pending gate l disk fits sound c now = let stood = sound c now in inl (laid_out_opens l c fits stood.laid_out ∙ ap (records l.version) stood.same_records)
sound_opens_as Undecided gate l disk fits sound c now =
    let wavering = sound c now c (same_here gate 1 c) in
    elim (cases_eq (byte_at c gate) 1) [
      | inl held ↦ inr (wavering.opens held)
      | inr not ↦ inl (laid_out_opens l c fits (wavering.shut not) ∙ ap (records l.version) wavering.same_records)
    ]

pub sound_opens : (j : Journal) (disk : DiskState) → IsSound j disk
    → Every disk.may_leave (λ c. (opened (digest_of j) (slots_of j) c ≡ records (version_of j) (kept j disk.seen)) ⊎ (opened (digest_of j) (slots_of j) c ≡ other j disk.seen))
sound_opens j disk sound = sound_opens_as j.standing j.gate (layout_of j) disk j.within sound

-- in an image that holds the whole journal, with the bytes of it as they were
module _ (l : Layout) (fits : l.count ≤ l.slots) (at n : ℕ) (behind : journal_length l.slots ≤ at) (old new : DiskState) (sound : IsSoundAs Settled 0 l old) (reads : old.may_leave old.seen) (change : ChangesBy (TornWrite at n) old new) where
  front : (d c : Content) → old.may_leave d → TornWrite at n d c → SameBefore (journal_length l.slots) d c
  front d c was torn place lt = torn.others place (let whole = (sound d was).0.whole in omega arith) (inl (omega arith))

  kept_front : (d c : Content) → SameBefore (journal_length l.slots) d c → kept_by l c ≡ kept_by l d
  kept_front d c same = same_bodies d c (half_at l.slots l.half) l.count (λ i lo hi. same i (omega (arith, half_high l.slots l.half)))

  stands : (c : Content) → After (TornWrite at n) old.may_leave c → Stands l old.seen c
  stands c (d, was, torn) =
      let stood = (sound d was).0 in
      let same = front d c was torn in
      record {
        whole = let whole = stood.whole in let longer = torn.no_shorter in omega arith;
        laid_out = same_laid_out l d c fits (λ i lo hi. same i (omega arith)) (λ k lt. same (gate_at l.slots l.half k) (omega (arith, half_high l.slots l.half))) stood.laid_out;
        same_records = kept_front d c same ∙ stood.same_records;
      }

  pub kept_new : kept_by l new.seen ≡ kept_by l old.seen
  kept_new = kept_front old.seen new.seen (front old.seen new.seen reads change.reads)

  pub sound_new : IsSoundAs Settled 0 l new
  sound_new c now =
      let from = change.crash c now in
      let stood = stands c from in (
        record { whole = stood.whole; laid_out = stood.laid_out; same_records = stood.same_records ∙ sym kept_new },
        λ place lt. front from.0 c from.1 from.2 place lt ∙ (sound from.0 from.1).1 place lt ∙ sym (front old.seen new.seen reads change.reads place lt),
      )

  pub moments_new : Leaves old new (λ c. opens_by l c ≡ records l.version (kept_by l old.seen))
  moments_new = leaves_as old new (After (TornWrite at n) old.may_leave) (λ c. opens_by l c ≡ records l.version (kept_by l old.seen)) change.any_moment (λ c after.
      let stood = stands c after in laid_out_opens l c fits stood.laid_out ∙ ap (records l.version) stood.same_records)

-- Calls that write past the journal alone leave a settled one as it is, and at each moment an image opens to its records.
pub stays_behind : (j : Journal) (at n : ℕ) (old new : DiskState) → IsSettled j → IsSound j old → old.may_leave old.seen → journal_length (slots_of j) ≤ at → ChangesBy (TornWrite at n) old new
    → IsSound j new × (kept j new.seen ≡ kept j old.seen) × Leaves old new (λ c. opened (digest_of j) (slots_of j) c ≡ records (version_of j) (kept j old.seen))
stays_behind j at n old new settled sound reads behind change =
    let settled_sound = subst (λ s. IsSoundAs s j.gate (layout_of j) old) settled sound in (
      subst (λ s. IsSoundAs s j.gate (layout_of j) new) (sym settled) (sound_new (layout_of j) j.within at n behind old new settled_sound reads change),
      kept_new (layout_of j) j.within at n behind old new settled_sound reads change,
      moments_new (layout_of j) j.within at n behind old new settled_sound reads change,
    )

-- Calls that change nothing past the journal leave the bytes there.
pub stays_past : (slots at n : ℕ) (old new : Content) → journal_length slots ≤ at → SameFrom (journal_length slots) old new → bytes_at new at n ≡ bytes_at old at n
stays_past slots at n old new past same = bytes_at-same new old at n (λ place lo hi. same.others place (omega arith))

-- The images that are left were all possible before.
same_sound : (standing : Standing) (gate : ℕ) (l : Layout) (seen : Content) (old new : DiskState) → old.seen ≡ seen → new.seen ≡ seen → ((c : Content) → new.may_leave c → old.may_leave c)
    → IsSoundAs standing gate l old → IsSoundAs standing gate l new
same_sound Settled gate l seen old new was is images sound = λ c now.
    subst (λ s. Stands l s c × SameBefore (journal_length l.slots) s c) (was ∙ sym is) (sound c (images c now))
same_sound Pending gate l seen old new was is images sound = λ c now. subst (λ s. Stands l s c) (was ∙ sym is) (sound c (images c now))
same_sound Undecided gate l seen old new was is images sound = λ d now c near. subst (λ s. Wavers l gate s c) (was ∙ sym is) (sound d (images d now) c near)

-- Calls that only read leave any journal as it is.
pub stays_read : (j : Journal) (old new : DiskState) → IsSound j old → ChangesBy Same old new
    → IsSound j new × (kept j new.seen ≡ kept j old.seen) × (other j new.seen ≡ other j old.seen)
stays_read j old new sound quiet = (
  same_sound j.standing j.gate (layout_of j) old.seen old new refl quiet.reads
      (λ c now. let from = quiet.crash c now in subst old.may_leave (sym from.2) from.1) sound,
  ap (kept j) quiet.reads,
  ap (other j) quiet.reads,
)
