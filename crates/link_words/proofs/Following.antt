-- The marks of a follower that were opened, worked on over a link, and closed.
use Rattle.std.proofs.Common.{◌≡◌, ◌⊎◌, ℕ, ◌≤◌, Bool, IsTrue, List, None, refl, sym, subst, arith, inl, inr}
use Rattle.std.proofs.lemmas.Bool.{false≢true}
use Rattle.cabinet.specs.State.{State}
use Rattle.catalog.specs.declared.catalogue.Catalogue.{Catalogue}
use Rattle.change_feed.specs.Applies.{Pair}
use Rattle.change_feed.specs.Files.{EndsIn, MayEndIn}
use Rattle.cut_follower.specs.declared.ends.LinkEnd.{LinkEnd}
use Rattle.cut_follower.specs.Following.{Arrival, FollowsOn, MayEndAlong}
use Rattle.cut_follower.specs.Links.{LinkAt}
use Rattle.disk_model.specs.Content.{Content, Same}
use Rattle.disk_model.specs.Images.{After, ChangesBy, DiskState, Every, Leaves}
use Rattle.disk_model.specs.Moments.{leaves_as, leaves_then}
use Rattle.opened_cache.specs.Change.{DiskChange}
use Rattle.sessions.specs.Outside.{FaultCounts, counts}
use Rattle.link_words.specs.Ends.{HasFollowed}

module _ (c : Catalogue) (m : DiskChange) (mid : DiskState) (s : Pair) (told' : Bool) (digest' : List ℕ) (quiet : IsTrue m.told → ChangesBy Same m.from mid) (same_told : told' ≡ m.told) (same_digest : digest' ≡ c.digest) where
  was_there : (xs : List Arrival) (image : Content) → After Same m.from.may_leave image → m.from.may_leave image ⊎ MayEndAlong c.digest s.stand xs image
  was_there xs image after = inl (subst m.from.may_leave (sym after.2) after.1)

  all_images : (xs : List Arrival) → (IsTrue told' → Leaves mid m.to (MayEndAlong digest' s.stand xs)) → IsTrue m.told → Leaves m.from m.to (λ image. m.from.may_leave image ⊎ MayEndAlong c.digest s.stand xs image)
  all_images xs images is =
      leaves_then m.from mid m.to (λ image. m.from.may_leave image ⊎ MayEndAlong c.digest s.stand xs image)
      (leaves_as m.from mid (After Same m.from.may_leave) (λ image. m.from.may_leave image ⊎ MayEndAlong c.digest s.stand xs image) (quiet is).any_moment (was_there xs))
      (leaves_as mid m.to (MayEndAlong digest' s.stand xs) (λ image. m.from.may_leave image ⊎ MayEndAlong c.digest s.stand xs image) (images (subst IsTrue (sym same_told) is)) (λ image may. inr (subst (λ (d : List ℕ). MayEndAlong d s.stand xs image) same_digest may)))

  module _ (cabinet : FaultCounts) (a b : LinkAt) (t : Pair) (e : LinkEnd)
      (opens : IsTrue m.told → EndsIn c.digest s.stand.mark m.from.seen) (sure : s.stand.undecided ≡ None)
      (left : IsTrue m.told → Every m.to.may_leave (MayEndIn c.digest t.stand))
      (before : m.faults.before ≤ s.faults) (after : t.faults ≤ m.faults.after) (cabinet_before : cabinet.before ≤ s.cabinet_faults) (cabinet_after : t.cabinet_faults ≤ cabinet.after) where
    pub followed : FollowsOn told' digest' mid m.to a b s t e → HasFollowed c cabinet m a b s.cabinet t.cabinet e
    followed f = record {
      first = s;
      last = t;
      opens = opens;
      sure = sure;
      first_cabinet = refl;
      last_cabinet = refl;
      follows = record {
        arrivals = f.arrivals;
        last = f.last;
        arrive = f.arrive;
        ends = f.ends;
        left = f.left;
        runs = f.runs;
        images = λ is. absurd (false≢true is);
        in_force = f.in_force;
        acknowledged = f.acknowledged;
        same_catalogue = f.same_catalogue;
        still_sound = f.still_sound;
      };
      images = all_images f.arrivals f.images;
      marks_before = before;
      marks_after = after;
      cabinet_before = cabinet_before;
      cabinet_after = cabinet_after;
      left = left;
    }

-- FAULTS COUNTED FROM BEFORE THE OPENING OF THE CACHE

pub wider : (c : Catalogue) (before mid after : ℕ) (m : DiskChange) (a b : LinkAt) (s u : State) (e : LinkEnd) → before ≤ mid → HasFollowed c (counts mid after) m a b s u e → HasFollowed c (counts before after) m a b s u e
wider c before mid after m a b s u e later f = record {
  first = f.first;
  last = f.last;
  opens = f.opens;
  sure = f.sure;
  first_cabinet = f.first_cabinet;
  last_cabinet = f.last_cabinet;
  follows = f.follows;
  images = f.images;
  marks_before = f.marks_before;
  marks_after = f.marks_after;
  cabinet_before = let l = f.cabinet_before in omega (arith, l, later);
  cabinet_after = f.cabinet_after;
  left = f.left;
}
