-- What the parts of a post make of its outbox: the file is settled, and the record is added.
use Rattle.std.proofs.Common.{◌≡◌, ◌⊎◌, ℕ, ◌+◌, Bool, IsTrue, List, [], ◌∷◌, ◌++◌, length, Some, None, Result, Ok, Err, refl, sym, subst, ap, ◌∙◌, arith, inl, inr, length-append}
use Rattle.cache_file.specs.File.{Brings, held}
use Rattle.cache_file.proofs.Sparing.{settled_sure}
use Rattle.catalog.specs.declared.catalogue.Catalogue.{Catalogue}
use Rattle.disk_model.specs.Content.{Content}
use Rattle.disk_model.specs.Images.{DiskState, Leaves}
use Rattle.disk_model.specs.Moments.{leaves_as, leaves_then}
use Rattle.gate_journal.specs.declared.journal.Journal.{Journal}
use Rattle.gate_journal.specs.Layout.{journal_length}
use Rattle.gate_journal.specs.Opened.{Opening, records}
use Rattle.gate_journal.specs.Sound.{IsAlike, IsSettled, kept, room_of, slots_of, version_of}
use Rattle.truncation_list.specs.declared.cover.Cover.{Cover}
use Rattle.outbox.specs.declared.written.Written.TheVariants as outcome
use Rattle.outbox.specs.Files.{Holds, IsPostable, IsPosted, MayOpenTo, OpensToPosts, post_body}
use Rattle.outbox.specs.Posts.{Outgoing, post_slots}
use Rattle.outbox.specs.Writes.{HasWritten, written}
use Rattle.outbox.proofs.Imaging.{moments, settled_now, unsure_then}
use Rattle.outbox.proofs.Numbering.{all_on, posts_count, posts_on}

-- nothing is undecided any more
abbrev pub decided : Outgoing → Outgoing
decided s = record { posts = s.posts; undecided = None; heard = s.heard }

module _ (told told' : Bool) (same_told : told' ≡ told) (c : Catalogue) (s : Outgoing) (start : ℕ) (j j' : Journal) (old new : DiskState) (alike : IsAlike j j') (m : IsPosted told c s j old) where
  abbrev was_told : IsTrue told' → IsTrue told
  was_told is = subst IsTrue same_told is

  -- THE FILE WAS SETTLED

  module _ (same_room : room_of j' ≡ room_of j) where
    fills_still : room_of j' + length s.posts ≡ post_slots
    fills_still = ap (λ (n : ℕ). n + length s.posts) same_room ∙ m.fills

    pub settled_as : {T E : Type 0} (value : T) → (IsTrue told → Brings {T = T} {E = E} (Ok value) (held j old) start j j' old new) → IsSettled j' → IsPosted told' c (decided s) j' new
    settled_as value brings settled = record {
      valid = m.valid;
      same_slots = alike.same_slots ∙ m.same_slots;
      same_digest = alike.same_digest ∙ m.same_digest;
      fills = fills_still;
      postable = m.postable;
      undecided = tt;
      heard = m.heard;
      sure = λ is. refl;
      on_disk = λ is.
          let b = brings (was_told is) in
          let holds : Holds c s.posts (held j' new) = subst (Holds c s.posts) (sym b.done) (m.on_disk (was_told is)).holds in
          record { sound = b.sound; holds = holds; wavers = inl (subst (Holds c s.posts) (sym (settled_sure j' new settled)) holds) };
    }

    pub unsettled_as : {T E : Type 0} (fault : E) → (IsTrue told → Brings {T = T} {E = E} (Err fault) (held j old) start j j' old new) → (IsSettled j' → ⊥) → IsPosted told' c s j' new
    unsettled_as {T = T} {E = E} fault brings unsettled = record {
      valid = m.valid;
      same_slots = alike.same_slots ∙ m.same_slots;
      same_digest = alike.same_digest ∙ m.same_digest;
      fills = fills_still;
      postable = m.postable;
      undecided = m.undecided;
      heard = m.heard;
      sure = λ settled. absurd (unsettled settled);
      on_disk = λ is.
          let on = m.on_disk (was_told is) in
          let b = brings (was_told is) in
          record {
            sound = b.sound;
            holds = subst (Holds c s.posts) (sym b.failed) on.holds;
            wavers = elim (unsure_then {T = T} {E = E} (Err fault) c s s.posts (held j old) on.holds start j j' old new on b) [
              | inl holds ↦ inl holds
              | inr (inl more) ↦ inr more
              | inr (inr holds) ↦ inl holds
            ];
          };
    }

  pub settling_moments : {T E : Type 0} (result : Result T E) → start ≡ journal_length (slots_of j) → IsTrue told → Brings result (held j old) start j j' old new → Leaves old new (MayOpenTo c s)
  settling_moments result begins is b =
      leaves_as old new (λ image. MayOpenTo c s image ⊎ OpensToPosts c image s.posts) (MayOpenTo c s)
      (moments result c s s.posts (held j old) (m.on_disk is).holds start j j' old new (m.on_disk is) b begins m.same_slots m.same_digest) (λ image at. elim at [ inl may ↦ may | inr opens ↦ inl opens ])

  -- A RECORD WAS ADDED, to a file that was settled

  module _ (cover : Cover) (one : IsPostable c cover) (number : ℕ) (at : number ≡ length s.posts + 1) (body : List ℕ) (body_is : body ≡ post_body number cover) where
    abbrev after : Opening
    after = records (version_of j) (kept j old.seen ++ body ∷ [])

    abbrev more : List Cover
    more = s.posts ++ cover ∷ []

    holds_more : IsTrue told → Holds c more after
    holds_more is =
        let are = (m.on_disk is).holds in
        let counts = posts_count c (kept j old.seen) s.posts are in
        let slot : length s.posts ≡ length (kept j old.seen) = sym counts in
        posts_on c (kept j old.seen) s.posts are cover body (length s.posts) slot one (body_is ∙ ap (λ (n : ℕ). post_body n cover) at)

    pub added_as : {T E : Type 0} (value : T) → room_of j' + 1 ≡ room_of j → (IsTrue told → Brings {T = T} {E = E} (Ok value) after start j j' old new) → IsSettled j' → IsPosted told' c (written s cover outcome.Added) j' new
    added_as {T = T} {E = E} value room brings settled = record {
      valid = m.valid;
      same_slots = alike.same_slots ∙ m.same_slots;
      same_digest = alike.same_digest ∙ m.same_digest;
      fills = let size = length-append s.posts (cover ∷ []) in omega (arith, size, room, m.fills);
      postable = all_on (IsPostable c) s.posts cover m.postable one;
      undecided = tt;
      heard = let size = length-append s.posts (cover ∷ []) in omega (arith, size, m.heard);
      sure = λ is. refl;
      on_disk = λ is.
          let b = brings (was_told is) in
          let holds : Holds c more (held j' new) = subst (Holds c more) (sym b.done) (holds_more (was_told is)) in
          record { sound = b.sound; holds = holds; wavers = inl (subst (Holds c more) (sym (settled_sure j' new settled)) holds) };
    }

    pub undecided_as : {T E : Type 0} (fault : E) → s.undecided ≡ None → room_of j' ≡ room_of j → (IsTrue told → Brings {T = T} {E = E} (Err fault) after start j j' old new) → (IsSettled j' → ⊥) → IsPosted told' c (written s cover outcome.Undecided) j' new
    undecided_as {T = T} {E = E} fault sure same_room brings unsettled = record {
      valid = m.valid;
      same_slots = alike.same_slots ∙ m.same_slots;
      same_digest = alike.same_digest ∙ m.same_digest;
      fills = ap (λ (n : ℕ). n + length s.posts) same_room ∙ m.fills;
      postable = m.postable;
      undecided = one;
      heard = m.heard;
      sure = λ settled. absurd (unsettled settled);
      on_disk = λ is.
          let on = m.on_disk (was_told is) in
          let b = brings (was_told is) in
          record {
            sound = b.sound;
            holds = subst (Holds c s.posts) (sym b.failed) on.holds;
            wavers = elim (unsure_then {T = T} {E = E} (Err fault) c s more after (holds_more (was_told is)) start j j' old new on b) [
              | inl holds ↦ inl holds
              | inr (inl other) ↦ absurd (none_some other.0 (sym sure ∙ other.1))
              | inr (inr holds) ↦ inr (cover, refl, holds)
            ];
          };
    }
      where
        none_some : (x : Cover) → None ≡ Some x → ⊥
        none_some x is = cc

    pub adding_moments : {T E : Type 0} (result : Result T E) → start ≡ journal_length (slots_of j) → IsTrue told → Brings result after start j j' old new → Leaves old new (λ image. MayOpenTo c s image ⊎ OpensToPosts c image more)
    adding_moments result begins is b = moments result c s more after (holds_more is) start j j' old new (m.on_disk is) b begins m.same_slots m.same_digest

-- the images of both parts
pub both_moments : (c : Catalogue) (s : Outgoing) (more : List Cover) (old mid new : DiskState) → Leaves old mid (MayOpenTo c s) → Leaves mid new (λ image. MayOpenTo c (decided s) image ⊎ OpensToPosts c image more)
    → Leaves old new (λ image. MayOpenTo c s image ⊎ OpensToPosts c image more)
both_moments c s more old mid new first next =
    leaves_then old mid new (λ image. MayOpenTo c s image ⊎ OpensToPosts c image more)
    (leaves_as old mid (MayOpenTo c s) (λ image. MayOpenTo c s image ⊎ OpensToPosts c image more) first (λ image may. inl may))
    (leaves_as mid new (λ image. MayOpenTo c (decided s) image ⊎ OpensToPosts c image more) (λ image. MayOpenTo c s image ⊎ OpensToPosts c image more) next (λ image at.
    elim at [ inl may ↦ inl (back image may) | inr opens ↦ inr opens ]))
  where
    none_some : (x : Cover) → None ≡ Some x → ⊥
    none_some x is = cc

    back : (image : Content) → MayOpenTo c (decided s) image → MayOpenTo c s image
    back image (inl opens) = inl opens
    back image (inr (x, is, opens)) = absurd (none_some x is)

-- THE WHOLE OF IT

module _ (told tm : Bool) (mid_told : tm ≡ told) (c : Catalogue) (s : Outgoing) (start : ℕ) (j jm : Journal) (old mid : DiskState) (alike : IsAlike j jm) (m : IsPosted told c s j old) (begins : start ≡ journal_length (slots_of j)) (same_room : room_of jm ≡ room_of j) (cover : Cover) where
  -- the file couldn't be settled
  pub unready_written : {T E : Type 0} (fault : E) → (IsTrue told → Brings {T = T} {E = E} (Err fault) (held j old) start j jm old mid) → (IsSettled jm → ⊥) → HasWritten tm c s cover outcome.Unready jm old mid
  unready_written {T = T} {E = E} fault brings unsettled = record {
    posted = unsettled_as told tm mid_told c s start j jm old mid alike m same_room {T = T} {E = E} fault brings unsettled;
    settled = tt;
    images = λ is.
        let was = subst IsTrue mid_told is in
        leaves_as old mid (MayOpenTo c s) (λ image. MayOpenTo c s image ⊎ OpensToPosts c image (s.posts ++ cover ∷ []))
        (settling_moments told tm mid_told c s start j jm old mid alike m {T = T} {E = E} (Err fault) begins was (brings was)) (λ image may. inl may);
    alone = λ is settled. absurd (unsettled settled);
  }

  -- it was settled, and the record was written, or its writing failed
  module _ {T E : Type 0} (value : T) (first : IsTrue told → Brings {T = T} {E = E} (Ok value) (held j old) start j jm old mid) (settled : IsSettled jm)
      (tn : Bool) (new_told : tn ≡ tm) (sm sn : ℕ) (jn : Journal) (new : DiskState) (alike' : IsAlike jm jn) (mid_begins : sm ≡ journal_length (slots_of jm)) (new_begins : sn ≡ journal_length (slots_of jn))
      (one : IsPostable c cover) (number : ℕ) (at : number ≡ length s.posts + 1) (body : List ℕ) (body_is : body ≡ post_body number cover) where
    at_mid : IsPosted tm c (decided s) jm mid
    at_mid = settled_as told tm mid_told c s start j jm old mid alike m same_room {T = T} {E = E} value first settled

    abbrev brought : Opening
    brought = records (version_of jm) (kept jm mid.seen ++ body ∷ [])

    all_moments : {U F : Type 0} (result : Result U F) → (IsTrue tm → Brings result brought sm jm jn mid new) → IsTrue tn → Leaves old new (λ image. MayOpenTo c s image ⊎ OpensToPosts c image (s.posts ++ cover ∷ []))
    all_moments result next is =
        let at_tm = subst IsTrue new_told is in
        let was = subst IsTrue mid_told at_tm in
        both_moments c s (s.posts ++ cover ∷ []) old mid new (settling_moments told tm mid_told c s start j jm old mid alike m {T = T} {E = E} (Ok value) begins was (first was))
        (adding_moments tm tn new_told c (decided s) sm jm jn mid new alike' at_mid cover one number at body body_is result mid_begins at_tm (next at_tm))

    pub undecided_written : {U F : Type 0} (fault : F) → (IsTrue tm → Brings {T = U} {E = F} (Err fault) brought sm jm jn mid new) → room_of jn ≡ room_of jm → (IsSettled jn → ⊥) → HasWritten tn c s cover outcome.Undecided jn old new
    undecided_written {U = U} {F = F} fault next room unsettled = record {
      posted = undecided_as tm tn new_told c (decided s) sm jm jn mid new alike' at_mid cover one number at body body_is {T = U} {E = F} fault refl room next unsettled;
      settled = tt;
      images = all_moments {U = U} {F = F} (Err fault) next;
      alone = λ is settled'. absurd (unsettled settled');
    }

    pub added_written : {U F : Type 0} (value' : U) → (IsTrue tm → Brings {T = U} {E = F} (Ok value') brought sm jm jn mid new) → room_of jn + 1 ≡ room_of jm → IsSettled jn → HasWritten tn c s cover outcome.Added jn old new
    added_written {U = U} {F = F} value' next room settled' =
        let posted : IsPosted tn c (written s cover outcome.Added) jn new = added_as tm tn new_told c (decided s) sm jm jn mid new alike' at_mid cover one number at body body_is {T = U} {E = F} value' room next settled' in
        record {
          posted = posted;
          settled = settled';
          images = all_moments {U = U} {F = F} (Ok value') next;
          alone = λ is settled''. settled_now c sn jn new_begins posted.same_slots posted.same_digest (written s cover outcome.Added) new (posted.on_disk is) settled'';
        }
