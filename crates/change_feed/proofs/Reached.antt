-- What a reader of marks was shown, and what the file is that was opened with it.
use Rattle.std.proofs.Common.{◌≡◌, ℕ, ◌+◌, Bool, IsTrue, List, [], ◌∷◌, ◌++◌, Option, None, refl, sym, subst, ◌∙◌, ap, inl}
use Rattle.std.proofs.lemmas.List.{append-nil}
use mathlib.Core.List.{append_assoc}
use Rattle.cache_file.specs.File.{held}
use Rattle.cache_file.proofs.Sparing.{settled_sure}
use Rattle.disk_model.specs.Content.{Same}
use Rattle.disk_model.specs.Images.{ChangesBy, DiskState}
use Rattle.gate_journal.specs.declared.journal.Journal.{Journal}
use Rattle.gate_journal.specs.Opened.{opened}
use Rattle.gate_journal.specs.Sound.{kept}
use Rattle.gate_journal.specs.Visiting.{Reaches, VisitsAll}
use Rattle.change_feed.specs.declared.mark.Mark.{Mark}
use Rattle.change_feed.specs.Files.{IsMarked, IsMarkedOn, IsMarksFile, Stand}
use Rattle.change_feed.specs.Marks.{EndsAt, IsBadAt, IsBadIn, LeadsTo, mark_slots}
use Rattle.change_feed.proofs.Following.{leads_above}

-- each visit shows one body more
abbrev pub shows : ℕ → List ℕ → List (List ℕ) → List (List ℕ) → Type 0
shows slot body old new = new ≡ old ++ body ∷ []

reached : (slot : ℕ) (bodies old new : List (List ℕ)) → Reaches shows slot bodies old new → new ≡ old ++ bodies
reached slot [] old new is = is ∙ sym (append-nil old)
reached slot (b ∷ bs) old new h = reached (slot + 1) bs h.0 new h.2 ∙ ap (λ (l : List (List ℕ)). l ++ bs) h.1 ∙ append_assoc old (b ∷ []) bs

module _ (told : Bool) (digest : List ℕ) (old new : DiskState) (before after : List (List ℕ)) (j : Journal) (fresh : before ≡ []) (v : VisitsAll shows told digest mark_slots old new before after j) where
  after_is : after ≡ v.bodies
  after_is = reached 0 v.bodies before after v.reaches ∙ ap (λ (l : List (List ℕ)). l ++ v.bodies) fresh

  pub opens_to_marks : (mark : Option Mark) → LeadsTo None after mark → IsTrue told → EndsAt mark (opened digest mark_slots old.seen)
  opens_to_marks mark leads is = subst (EndsAt mark) (sym (v.opens is).0) (subst (λ (l : List (List ℕ)). LeadsTo None l mark) after_is leads)

  pub opens_to_bad : (slot : ℕ) → IsBadAt None after slot → IsTrue told → IsBadIn slot (opened digest mark_slots old.seen)
  opens_to_bad slot bad is = subst (IsBadIn slot) (sym (v.opens is).0) (subst (λ (l : List (List ℕ)). IsBadAt None l slot) after_is bad)

  pub is_marked : (mark : Option Mark) (told' : Bool) → LeadsTo None after mark → told' ≡ told → (IsTrue told → IsMarksFile digest old.seen) → (IsTrue told → ChangesBy Same old new)
      → IsMarked told' (record { mark = mark; undecided = None }) j new
  is_marked mark told' leads same ours quiet = record {
    same_slots = v.same_slots;
    above = leads_above None mark after tt leads;
    behind = tt;
    sure = λ settled. refl;
    on_disk = λ is'.
        let is : IsTrue told = subst IsTrue same is' in
        let kept_is : kept j new.seen ≡ after = ap (kept j) (quiet is).reads ∙ (v.opens is).1 ∙ sym after_is in
        let ends : EndsAt mark (held j new) = subst (λ (l : List (List ℕ)). LeadsTo None l mark) (sym kept_is) leads in
        record {
          sound = v.sound is (ours is mark (opens_to_marks mark leads is));
          ends = ends;
          wavers = inl (subst (EndsAt mark) (sym (settled_sure j new v.settled)) ends);
        };
  }
