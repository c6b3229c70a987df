-- What the images of an outbox's file open to, between two calls and at each moment of one.
use Rattle.std.proofs.Common.{◌≡◌, ◌⊎◌, ℕ, ◌+◌, ◌≤◌, List, [], ◌∷◌, ◌++◌, length, Some, Result, refl, sym, subst, ap, ◌∙◌, inl, inr}
use Rattle.std.specs.List.{AllByRecursion}
use Rattle.cache_file.specs.File.{Anywhere, Brings, HasHeld, IsAmong, opens_to, unsure}
use Rattle.cache_file.proofs.Sparing.{whole_now}
use Rattle.catalog.specs.declared.catalogue.Catalogue.{Catalogue}
use Rattle.disk_model.specs.Content.{Content}
use Rattle.disk_model.specs.Images.{DiskState, Every, Leaves}
use Rattle.disk_model.specs.Moments.{leaves_as}
use Rattle.gate_journal.specs.declared.journal.Journal.{Journal}
use Rattle.gate_journal.specs.Layout.{journal_length}
use Rattle.gate_journal.specs.Opened.{Opening, opened, no_cache, differs, records}
use Rattle.gate_journal.specs.Sound.{IsSettled, digest_of, slots_of}
use Rattle.gate_journal.proofs.Behind.{settled_opens, sound_opens}
use Rattle.record_text.specs.Fits.{FitsCover}
use Rattle.record_text.specs.Reading.{cover_at}
use Rattle.record_text.proofs.Back.{cover_back}
use Rattle.truncation_list.specs.declared.cover.Cover.{Cover}
use Rattle.outbox.specs.Files.{Holds, IsOutboxFile, IsPostable, IsPostedOn, MayOpenTo, OpensToPosts, bodies_from, post_body}
use Rattle.outbox.specs.Posts.{MayBeFound, Outgoing, post_slots}

module _ (c : Catalogue) (start : ℕ) (j : Journal) (begins : start ≡ journal_length (slots_of j)) (same_slots : slots_of j ≡ post_slots) (same_digest : digest_of j ≡ c.digest) where
  pub opens_in : (posts : List Cover) (image : Content) → Holds c posts (opens_to j image) → start ≤ length image → OpensToPosts c image posts
  opens_in posts image holds whole = record {
    opens = subst (λ (n : ℕ). Holds c posts (opened c.digest n image)) same_slots (subst (λ (d : List ℕ). Holds c posts (opened d (slots_of j) image)) same_digest holds);
    whole = subst (λ (n : ℕ). journal_length n ≤ length image) same_slots (subst (λ (n : ℕ). n ≤ length image) begins whole);
  }

  module _ (s : Outgoing) (disk : DiskState) (on : IsPostedOn c s j disk) where
    pub each_now : Every disk.may_leave (MayOpenTo c s)
    each_now image now =
        let whole = whole_now start j disk begins on.sound image now in
        elim (sound_opens j disk on.sound image now) [
          | inl is ↦ inl (opens_in s.posts image (subst (Holds c s.posts) (sym is) on.holds) whole)
          | inr is ↦ elim on.wavers [
            | inl holds ↦ inl (opens_in s.posts image (subst (Holds c s.posts) (sym is) holds) whole)
            | inr more ↦ inr (more.0, more.1, opens_in (s.posts ++ more.0 ∷ []) image (subst (Holds c (s.posts ++ more.0 ∷ [])) (sym is) more.2) whole)
          ]
        ]

    pub settled_now : IsSettled j → Every disk.may_leave (λ image. OpensToPosts c image s.posts)
    settled_now settled image now =
        opens_in s.posts image (subst (Holds c s.posts) (sym (settled_opens j disk settled on.sound image now)) on.holds) (whole_now start j disk begins on.sound image now)

-- A call that brings posts.
module _ {T E : Type 0} (result : Result T E) (c : Catalogue) (s : Outgoing) (posts : List Cover) (after : Opening) (holds_after : Holds c posts after) (start : ℕ) (j j' : Journal) (old new : DiskState)
    (on : IsPostedOn c s j old) (b : Brings result after start j j' old new) where
  -- it opens to the posts, to these and the one that was undecided, or to those that are brought
  abbrev pub HoldsAmong : Opening → Type 0
  HoldsAmong o = Holds c s.posts o ⊎ ((x : Cover) × (s.undecided ≡ Some x) × Holds c (s.posts ++ x ∷ []) o) ⊎ Holds c posts o

  among : (o : Opening) → IsAmong j old after o → HoldsAmong o
  among o (inl is) = inl (subst (Holds c s.posts) (sym is) on.holds)
  among o (inr (inl is)) = elim on.wavers [
    | inl holds ↦ inl (subst (Holds c s.posts) (sym is) holds)
    | inr more ↦ inr (inl (more.0, more.1, subst (Holds c (s.posts ++ more.0 ∷ [])) (sym is) more.2))
  ]
  among o (inr (inr is)) = inr (inr (subst (Holds c posts) (sym is) holds_after))

  -- what is then unsure
  pub unsure_then : HoldsAmong (unsure j' new)
  unsure_then = among (unsure j' new) b.then_unsure

  pub moments : start ≡ journal_length (slots_of j) → slots_of j ≡ post_slots → digest_of j ≡ c.digest → Leaves old new (λ image. MayOpenTo c s image ⊎ OpensToPosts c image posts)
  moments begins same_slots same_digest =
      leaves_as old new (λ image. IsAmong j old after (opens_to j image) × HasHeld start Anywhere old image) (λ image. MayOpenTo c s image ⊎ OpensToPosts c image posts) b.any_moment (λ image at.
      elim (among (opens_to j image) at.0) [
        | inl holds ↦ inl (inl (opens_in c start j begins same_slots same_digest s.posts image holds at.1.whole))
        | inr (inl more) ↦ inl (inr (more.0, more.1, opens_in c start j begins same_slots same_digest (s.posts ++ more.0 ∷ []) image more.2 at.1.whole))
        | inr (inr holds) ↦ inr (opens_in c start j begins same_slots same_digest posts image holds at.1.whole)
      ])

-- ONE LIST OF POSTS

cover_in : (n : ℕ) (cover : Cover) → FitsCover cover → cover_at 9 (post_body n cover) ≡ cover
unfolding post_body
cover_in n cover fits = cover_back 9 (post_body n cover) _ cover fits refl

abbrev head_of : List ℕ → List (List ℕ) → List ℕ
head_of d [] = d
head_of d (body ∷ bodies) = body

abbrev rest_of : List (List ℕ) → List (List ℕ)
rest_of [] = []
rest_of (body ∷ bodies) = bodies

posts_once : (c : Catalogue) (n : ℕ) (posts others : List Cover) → AllByRecursion (IsPostable c) posts → AllByRecursion (IsPostable c) others → bodies_from n posts ≡ bodies_from n others → posts ≡ others
posts_once c n [] [] all all' same = refl
posts_once c n [] (x ∷ others) all all' same = absurd (cc)
posts_once c n (x ∷ posts) [] all all' same = absurd (cc)
posts_once c n (x ∷ posts) (y ∷ others) all all' same =
    let first : x ≡ y = sym (cover_in (n + 1) x all.0.fits) ∙ ap (cover_at 9) (ap (head_of []) same) ∙ cover_in (n + 1) y all'.0.fits in
    λ k. first k ∷ posts_once c (n + 1) posts others all.1 all'.1 (ap rest_of same) k

holds_once : (c : Catalogue) (posts others : List Cover) (o : Opening) → Holds c posts o → Holds c others o → posts ≡ others
holds_once c posts others no_cache one other = absurd one
holds_once c posts others (differs found) one other = absurd one
holds_once c posts others (records version bodies) one other = posts_once c 0 posts others one.postable other.postable (sym one.bodies_are ∙ other.bodies_are)

pub image_once : (c : Catalogue) (posts others : List Cover) (image : Content) → OpensToPosts c image posts → OpensToPosts c image others → posts ≡ others
image_once c posts others image one other = holds_once c posts others (opened c.digest post_slots image) one.opens other.opens

pub image_found : (c : Catalogue) (s : Outgoing) (found : List Cover) (image : Content) → MayOpenTo c s image → OpensToPosts c image found → MayBeFound s found
image_found c s found image (inl is) opens = inl (image_once c found s.posts image opens is)
image_found c s found image (inr is) opens = inr (is.0, is.1, image_once c found (s.posts ++ is.0 ∷ []) image opens is.2)

pub image_ours : (c : Catalogue) (s : Outgoing) (image : Content) → MayOpenTo c s image → IsOutboxFile c image
image_ours c s image (inl is) posts holds = is.whole
image_ours c s image (inr is) posts holds = is.2.whole
