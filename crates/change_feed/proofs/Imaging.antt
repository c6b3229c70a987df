-- What the images of a feed's file end in, between two calls and at each moment of one.
use Rattle.std.proofs.Common.{◌≡◌, ◌⊎◌, ℕ, ◌≤◌, Bool, IsTrue, List, [], ◌∷◌, length, Option, Some, None, IsSome, Result, Ok, Err, sym, subst, ◌∙◌, inl, inr}
use Rattle.cache_file.specs.File.{Anywhere, HasHeld, IsAmong, held, opens_to, unsure}
use Rattle.cache_file.proofs.Sparing.{settled_sure, whole_now}
use Rattle.disk_model.specs.Content.{Content}
use Rattle.disk_model.specs.Images.{DiskState, Every, Leaves}
use Rattle.disk_model.specs.Moments.{leaves_as}
use Rattle.gate_journal.specs.declared.journal.Journal.{Journal}
use Rattle.gate_journal.specs.Layout.{journal_length}
use Rattle.gate_journal.specs.Opened.{Opening, opened, no_cache, differs, records}
use Rattle.gate_journal.specs.Sound.{IsSettled, digest_of, slots_of}
use Rattle.gate_journal.proofs.Behind.{settled_opens, sound_opens}
use Rattle.change_feed.specs.declared.mark.Mark.{Mark}
use Rattle.change_feed.specs.Files.{BringsMark, EndsIn, IsMarkedOn, IsMarksFile, MayEndIn, Stand}
use Rattle.change_feed.specs.Marks.{EndsAt, LeadsTo, mark_slots}
use Rattle.change_feed.specs.Runs.{IsEither}
use Rattle.change_feed.proofs.Following.{some_mark}

module _ (start : ℕ) (j : Journal) (begins : start ≡ journal_length (slots_of j)) (same_slots : slots_of j ≡ mark_slots) where
  pub ends_in : (mark : Option Mark) (c : Content) → EndsAt mark (opens_to j c) → start ≤ length c → EndsIn (digest_of j) mark c
  ends_in mark c ends whole = record {
    opens = subst (λ (n : ℕ). EndsAt mark (opened (digest_of j) n c)) same_slots ends;
    whole = subst (λ (n : ℕ). journal_length n ≤ length c) same_slots (subst (λ (n : ℕ). n ≤ length c) begins whole);
  }

  module _ (s : Stand) (disk : DiskState) (on : IsMarkedOn s j disk) where
    pub each_now : Every disk.may_leave (MayEndIn (digest_of j) s)
    each_now c now =
        let whole = whole_now start j disk begins on.sound c now in
        elim (sound_opens j disk on.sound c now) [
          | inl is ↦ inl (ends_in s.mark c (subst (EndsAt s.mark) (sym is) on.ends) whole)
          | inr is ↦ elim on.wavers [
            | inl ends ↦ inl (ends_in s.mark c (subst (EndsAt s.mark) (sym is) ends) whole)
            | inr ends ↦ inr (ends.0, ends_in s.undecided c (subst (EndsAt s.undecided) (sym is) ends.1) whole)
          ]
        ]

    pub settled_now : IsSettled j → Every disk.may_leave (EndsIn (digest_of j) s.mark)
    settled_now settled c now = ends_in s.mark c (subst (EndsAt s.mark) (sym (settled_opens j disk settled on.sound c now)) on.ends) (whole_now start j disk begins on.sound c now)

-- A call that brings a mark.
module _ {T E : Type 0} (result : Result T E) (s : Stand) (found : Option Mark) (start : ℕ) (j j' : Journal) (old new : DiskState) (on : IsMarkedOn s j old) (b : BringsMark found result start j j' old new) where
  -- it ends in the mark, in the one that was undecided, or in the one that is brought
  abbrev EndsAmong : Opening → Type 0
  EndsAmong o = EndsAt s.mark o ⊎ (IsSome s.undecided × EndsAt s.undecided o) ⊎ EndsAt found o

  among : (o : Opening) → IsAmong j old b.after o → EndsAmong o
  among o (inl is) = inl (subst (EndsAt s.mark) (sym is) on.ends)
  among o (inr (inl is)) = elim on.wavers [
    | inl ends ↦ inl (subst (EndsAt s.mark) (sym is) ends)
    | inr ends ↦ inr (inl (ends.0, subst (EndsAt s.undecided) (sym is) ends.1))
  ]
  among o (inr (inr is)) = inr (inr (subst (EndsAt found) (sym is) b.ends_after))

  -- what is then unsure
  pub unsure_then : EndsAmong (unsure j' new)
  unsure_then = among (unsure j' new) b.brings.then_unsure

  pub moments : start ≡ journal_length (slots_of j) → slots_of j ≡ mark_slots → Leaves old new (λ c. MayEndIn (digest_of j) s c ⊎ EndsIn (digest_of j) found c)
  moments begins same_slots =
      leaves_as old new (λ c. IsAmong j old b.after (opens_to j c) × HasHeld start Anywhere old c) (λ c. MayEndIn (digest_of j) s c ⊎ EndsIn (digest_of j) found c) b.brings.any_moment (λ c at.
      elim (among (opens_to j c) at.0) [
        | inl ends ↦ inl (inl (ends_in start j begins same_slots s.mark c ends at.1.whole))
        | inr (inl ends) ↦ inl (inr (ends.0, ends_in start j begins same_slots s.undecided c ends.1 at.1.whole))
        | inr (inr ends) ↦ inr (ends_in start j begins same_slots found c ends at.1.whole)
      ])

-- it succeeded, and the file is settled
pub done_on : {T E : Type 0} (value : T) (undecided found : Option Mark) (start : ℕ) (j j' : Journal) (old new : DiskState) → BringsMark {T = T} {E = E} found (Ok value) start j j' old new → IsSettled j'
    → IsMarkedOn (record { mark = found; undecided = undecided }) j' new
done_on value undecided found start j j' old new b settled =
    let ends : EndsAt found (held j' new) = subst (EndsAt found) (sym b.brings.done) b.ends_after in
    record { sound = b.brings.sound; ends = ends; wavers = inl (subst (EndsAt found) (sym (settled_sure j' new settled)) ends) }

-- what bodies lead to is one mark
leads_once : (first m n : Option Mark) (bodies : List (List ℕ)) → LeadsTo first bodies m → LeadsTo first bodies n → m ≡ n
leads_once first m n [] one other = one ∙ sym other
leads_once first m n (b ∷ bodies) one other =
    leads_once (Some other.0) m n bodies (subst (λ (x : Mark). LeadsTo (Some x) bodies m) (some_mark one.0 other.0 (sym one.1.0 ∙ other.1.0)) one.2) other.2

ends_once : (m n : Option Mark) (o : Opening) → EndsAt m o → EndsAt n o → m ≡ n
ends_once m n no_cache one other = absurd one
ends_once m n (differs found) one other = absurd one
ends_once m n (records version bodies) one other = leads_once None m n bodies one other

pub image_once : (digest : List ℕ) (m n : Option Mark) (image : Content) → EndsIn digest m image → EndsIn digest n image → m ≡ n
image_once digest m n image one other = ends_once m n (opened digest mark_slots image) one.opens other.opens

pub image_either : (digest : List ℕ) (s : Stand) (found : Option Mark) (image : Content) → MayEndIn digest s image → EndsIn digest found image → IsEither s found
image_either digest s found image (inl is) ends = inl (image_once digest found s.mark image ends is)
image_either digest s found image (inr is) ends = inr (is.0, image_once digest found s.undecided image ends is.1)

pub image_ours : (digest : List ℕ) (s : Stand) (image : Content) → MayEndIn digest s image → IsMarksFile digest image
image_ours digest s image (inl is) mark ends = is.whole
image_ours digest s image (inr is) mark ends = is.1.whole
