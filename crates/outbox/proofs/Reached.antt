-- What a reader of posts was shown, and what the file is that was opened with it.
use Rattle.std.proofs.Common.{◌≡◌, ℕ, ◌+◌, Bool, IsTrue, List, [], ◌∷◌, ◌++◌, None, refl, sym, subst, ◌∙◌, ap, arith, inl}
use Rattle.std.proofs.lemmas.List.{append-nil}
use mathlib.Core.List.{append_assoc}
use Rattle.cache_file.specs.File.{held}
use Rattle.cache_file.proofs.Sparing.{settled_sure}
use Rattle.catalog.specs.declared.catalogue.Catalogue.{Catalogue}
use Rattle.catalog.specs.Valid.{IsValid}
use Rattle.disk_model.specs.Content.{Same}
use Rattle.disk_model.specs.Images.{ChangesBy, DiskState}
use Rattle.gate_journal.specs.declared.journal.Journal.{Journal}
use Rattle.gate_journal.specs.Opened.{opened}
use Rattle.gate_journal.specs.Sound.{kept, room_of}
use Rattle.gate_journal.specs.Visiting.{Reaches, VisitsAll}
use Rattle.truncation_list.specs.declared.cover.Cover.{Cover}
use Rattle.outbox.specs.Files.{ArePosts, Holds, IsBadBehind, IsBadIn, IsOutboxFile, IsPosted}
use Rattle.outbox.specs.Opens.{Read}
use Rattle.outbox.specs.Posts.{post_slots}
use Rattle.outbox.proofs.Numbering.{posts_count}

-- each visit shows one body more
abbrev pub shows : ℕ → List ℕ → Read → Read → Type 0
shows slot body old new = new ≡ record { catalogue = old.catalogue; bodies = old.bodies ++ body ∷ [] }

reached : (slot : ℕ) (bodies : List (List ℕ)) (old new : Read) → Reaches shows slot bodies old new → new ≡ record { catalogue = old.catalogue; bodies = old.bodies ++ bodies }
reached slot [] old new is = is ∙ ap (λ (l : List (List ℕ)). record { catalogue = old.catalogue; bodies = l }) (sym (append-nil old.bodies))
reached slot (b ∷ bs) old new h =
    reached (slot + 1) bs h.0 new h.2
    ∙ ap (λ (r : Read). record { catalogue = r.catalogue; bodies = r.bodies ++ bs }) h.1
    ∙ ap (λ (l : List (List ℕ)). record { catalogue = old.catalogue; bodies = l }) (append_assoc old.bodies (b ∷ []) bs)

module _ (told : Bool) (c : Catalogue) (old new : DiskState) (before after : Read) (j : Journal) (fresh : before ≡ record { catalogue = c; bodies = [] }) (v : VisitsAll shows told c.digest post_slots old new before after j) where
  after_is : after ≡ record { catalogue = c; bodies = v.bodies }
  after_is = reached 0 v.bodies before after v.reaches ∙ ap (λ (r : Read). record { catalogue = r.catalogue; bodies = r.bodies ++ v.bodies }) fresh

  pub are_read : (posts : List Cover) → ArePosts after.catalogue after.bodies posts → ArePosts c v.bodies posts
  are_read posts are = subst (λ (r : Read). ArePosts r.catalogue r.bodies posts) after_is are

  pub opens_to_posts : (posts : List Cover) → ArePosts after.catalogue after.bodies posts → IsTrue told → Holds c posts (opened c.digest post_slots old.seen)
  opens_to_posts posts are is = subst (Holds c posts) (sym (v.opens is).0) (are_read posts are)

  pub opens_to_bad : (slot : ℕ) → IsBadBehind after.catalogue after.bodies slot → IsTrue told → IsBadIn c slot (opened c.digest post_slots old.seen)
  opens_to_bad slot bad is = subst (IsBadIn c slot) (sym (v.opens is).0) (subst (λ (r : Read). IsBadBehind r.catalogue r.bodies slot) after_is bad)

  pub is_posted : (posts : List Cover) (told' : Bool) → IsValid c → ArePosts after.catalogue after.bodies posts → told' ≡ told → (IsTrue told → IsOutboxFile c old.seen) → (IsTrue told → ChangesBy Same old new)
      → IsPosted told' c (record { posts = posts; undecided = None; heard = 0 }) j new
  is_posted posts told' valid are same ours quiet = record {
    valid = valid;
    same_slots = v.same_slots;
    same_digest = v.same_digest;
    fills = ap (λ (n : ℕ). room_of j + n) (sym (posts_count c v.bodies posts (are_read posts are))) ∙ v.fills;
    postable = (are_read posts are).postable;
    undecided = tt;
    heard = omega arith;
    sure = λ settled. refl;
    on_disk = λ is'.
        let is : IsTrue told = subst IsTrue same is' in
        let kept_is : kept j new.seen ≡ v.bodies = ap (kept j) (quiet is).reads ∙ (v.opens is).1 in
        let holds : Holds c posts (held j new) = subst (λ (l : List (List ℕ)). ArePosts c l posts) (sym kept_is) (are_read posts are) in
        record {
          sound = v.sound is (ours is posts (opens_to_posts posts are is));
          holds = holds;
          wavers = inl (subst (Holds c posts) (sym (settled_sure j new v.settled)) holds);
        };
  }
