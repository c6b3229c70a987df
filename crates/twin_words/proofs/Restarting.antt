-- A side that is closed and opened again, or refused.
use Rattle.std.specs.Prelude.{IsTrue, ⊤, ◌&&◌}
use Rattle.std.proofs.Common.{◌≡◌, ◌⊎◌, ℕ, ◌≤◌, Bool, List, Option, None, refl, sym, subst, ap, ◌∙◌, arith, inl, inr}
use Rattle.cabinet.specs.State.{IsKnown, IsSound, State, now}
use Rattle.catalog.specs.declared.catalogue.Catalogue.{Catalogue}
use Rattle.catalog.specs.Valid.{IsValid}
use Rattle.change_feed.specs.Files.{MayEndIn, Stand}
use Rattle.base.specs.Readings.{Readings}
use Rattle.disk_model.specs.Content.{Content, Same}
use Rattle.disk_model.specs.Images.{After, ChangesBy, DiskState, Every, IsLawful, Leaves}
use Rattle.disk_model.specs.Moments.{leaves_as, leaves_none}
use Rattle.durable_cabinet.proofs.Pictured.{opened_sound}
use Rattle.durable_cabinet.specs.Images.{IsSoundImage}
use Rattle.gate_journal.specs.declared.fault.OpenFault.{OpenFault}
use Rattle.gate_journal.specs.declared.fault.OpenFault.TheVariants as fault
use Rattle.gate_journal.specs.declared.journal.Journal.{Journal}
use Rattle.gate_journal.specs.Sound.{IsSettled}
use Rattle.opened_cache.specs.Change.{DiskChange}
use Rattle.opened_cache.specs.Crash.{IsCacheClosed, IsLeftBy, LeftByOpening, OpeningLeaves}
use Rattle.outbox.specs.Files.{MayOpenTo, OpensToPosts}
use Rattle.truncation_list.proofs.Answering.{answers_itself}
use Rattle.sessions.specs.Outside.{counts}
use Rattle.twin_events.specs.Twins.{TwinStanding}
use Rattle.twin_lines.specs.declared.order.LinkSide.TheVariants as side
use Rattle.twin_lines.specs.Steps.{faults, moment}
use Rattle.twin_words.proofs.Beginning.{MarksEither, PostsFound, both_true}
use Rattle.twin_words.proofs.Composing.{GoesOnLater, goes_on_later, left_for, left_opening, now_left}
use Rattle.twin_words.proofs.Kept.{opens_follower, opens_leader}
use Rattle.twin_words.specs.Opens.{GoesFurther, IsLeftFor, LeavesTwin, OpensFollower, RefusesFollower, RefusesOutbox, Restarts, StaysClosed}

-- QUIET FILES

pub changes_none : (disk : DiskState) → ChangesBy Same disk disk
changes_none disk = record { reads = refl; crash = λ c is. (c, is, refl); any_moment = leaves_none disk (After Same disk.may_leave) }

-- at each moment of a file that was read and synced an image has what each one had before
quiet_images : (old new : DiskState) (P : Content → Type 0) → ChangesBy Same old new → Every old.may_leave P → Leaves old new P
quiet_images old new P quiet each = leaves_as old new (After Same old.may_leave) P quiet.any_moment (λ image after. subst P (sym after.2) (each after.0 after.1))

-- and so has each image then
quiet_left : (old new : DiskState) (P : Content → Type 0) → ChangesBy Same old new → Every old.may_leave P → Every new.may_leave P
quiet_left old new P quiet each image is = let after = quiet.crash image is in subst P (sym after.2) (each after.0 after.1)

-- what a closed cabinet leaves
pub closed_left : (c : Catalogue) (told : Bool) (j : Journal) (disk : DiskState) (s : State) → s.catalogue ≡ c → IsCacheClosed told j disk s → IsTrue told → Every disk.may_leave (IsLeftFor c s)
closed_left c told j disk s same closed is image left = left_for c s image (subst (λ (x : Catalogue). IsLeftBy x s image) same (closed.left is image left))

pub marks_left : (told : Bool) (digest c_digest : List ℕ) (disk : DiskState) (s : Stand) → digest ≡ c_digest → (IsTrue told → Every disk.may_leave (MayEndIn digest s)) → IsTrue told → Every disk.may_leave (MayEndIn c_digest s)
marks_left told digest c_digest disk s same left is = subst (λ (x : List ℕ). Every disk.may_leave (MayEndIn x s)) same (left is)

-- what three closed files leave where nothing was opened
pub leaves_twin : (c : Catalogue) (s : TwinStanding) (d m o : DiskChange) → s.cabinet.catalogue ≡ c → (IsTrue d.told → Every d.to.may_leave (IsLeftFor c s.cabinet)) → (IsTrue m.told → Every m.to.may_leave (MayEndIn c.digest s.stand)) → (IsTrue o.told → Every o.to.may_leave (MayOpenTo c s.out)) → LeavesTwin c s d m o
leaves_twin c s d m o same cache marks outbox = record { same = same; cache = cache; marks = marks; outbox = outbox }

-- THE LEADER

module _ (c : Catalogue) (dt mt ot : Bool) (d m o o' : DiskState) (nd nm po po' failed : ℕ) (s t : TwinStanding) where
  abbrev same_cache : DiskChange
  same_cache = record { told = dt; faults = counts nd nd; from = d; to = d }

  abbrev same_marks : DiskChange
  same_marks = record { told = mt; faults = counts nm nm; from = m; to = m }

  abbrev then_outbox : DiskChange
  then_outbox = record { told = ot; faults = counts po po'; from = o; to = o' }

  pub leader_restarts : (found : PostsFound) (source : Option ℕ) (P : Type 0) → t.stand ≡ s.stand → t.cabinet ≡ s.cabinet → t.sent ≡ s.sent → (IsTrue ot → IsLawful o) → (IsTrue ot → Every o.may_leave (MayOpenTo c s.out)) → (IsTrue ot → OpensToPosts c o.seen t.out.posts)
      → t.out.undecided ≡ None → t.out.heard ≡ 0 → (IsTrue ot → ChangesBy Same o o') → po ≤ po' → Restarts c source same_cache same_marks then_outbox P P side.Leader (moment s (faults failed po nm nd)) (moment t (faults failed po' nm nd))
  leader_restarts found source P same_stand same_cabinet same_sent lawful left opens sure silent quiet later = record {
    runs = record {
      opens = λ is. let told = (both_true mt ot (both_true dt (mt && ot) is).1).1 in opens_leader s t (record { found = found c s.out t.out.posts o.seen (left told o.seen (lawful told).reads_as) (opens told); decided = sure; silent = silent }) same_stand same_cabinet same_sent;
      silent = silent;
      decided = sure;
      same_stand = same_stand;
      same_cabinet = same_cabinet;
      same_sent = same_sent;
    };
    later = record { source = omega arith; outbox = later; marks = omega arith; cabinet = omega arith };
    goes = λ is. subst (λ (x : State). GoesFurther s.cabinet x) (sym same_cabinet) (record { later = omega arith; answers = answers_itself (now s.cabinet).book });
    cache_images = λ is. leaves_none d (IsLeftFor c s.cabinet);
    marks_images = λ is. leaves_none m (MayEndIn c.digest s.stand);
    posts_images = λ is. quiet_images o o' (MayOpenTo c s.out) (quiet is) (left is);
    stays_settled = λ settled. settled;
    still_sound = λ is settled sound. subst IsSound (sym same_cabinet) sound;
  }

  pub leader_closed : (cause : OpenFault) (j : Journal) (digest : List ℕ) → (IsTrue dt → IsLawful d) → (IsTrue mt → IsLawful m) → (IsTrue ot → IsLawful o) → s.cabinet.catalogue ≡ c → digest ≡ c.digest → IsCacheClosed dt j d s.cabinet → (IsTrue mt → Every m.may_leave (MayEndIn digest s.stand)) → (IsTrue ot → Every o.may_leave (MayOpenTo c s.out))
      → RefusesOutbox c then_outbox cause → StaysClosed c same_cache same_marks then_outbox side.Leader (moment s (faults failed po nm nd)) cause
  leader_closed cause j digest lawful marks_lawful posts_lawful same same_digest closed marks left refuses = record {
    refuses = refuses;
    cache_seen = λ is. closed_left c dt j d s.cabinet same closed is d.seen (lawful is).reads_as;
    marks_seen = λ is. marks_left mt digest c.digest m s.stand same_digest marks is m.seen (marks_lawful is).reads_as;
    posts_seen = λ is. left is o.seen (posts_lawful is).reads_as;
    left = leaves_twin c s same_cache same_marks then_outbox same (closed_left c dt j d s.cabinet same closed) (marks_left mt digest c.digest m s.stand same_digest marks) (λ is. quiet_left o o' (MayOpenTo c s.out) (refuses.quiet is) (left is));
    cache_images = λ is. leaves_none d (IsLeftFor c s.cabinet);
    marks_images = λ is. leaves_none m (MayEndIn c.digest s.stand);
    posts_images = λ is. quiet_images o o' (MayOpenTo c s.out) (refuses.quiet is) (left is);
  }

-- THE FOLLOWER

module _ (c : Catalogue) (dt mt ot : Bool) (d d' m m' o : DiskState) (nd nd' nm nm' po failed : ℕ) (s t : TwinStanding)
    (lawful : IsTrue dt → IsLawful d) (marks_lawful : IsTrue mt → IsLawful m) (same : s.cabinet.catalogue ≡ c)
    (j : Journal) (closed : IsCacheClosed dt j d s.cabinet) (digest : List ℕ) (same_digest : digest ≡ c.digest) (marks : IsTrue mt → Every m.may_leave (MayEndIn digest s.stand)) where
  abbrev then_cache : DiskChange
  then_cache = record { told = dt; faults = counts nd nd'; from = d; to = d' }

  abbrev then_marks : DiskChange
  then_marks = record { told = mt; faults = counts nm nm'; from = m; to = m' }

  abbrev same_outbox : DiskChange
  same_outbox = record { told = ot; faults = counts po po; from = o; to = o }

  cache_left : IsTrue dt → Every d.may_leave (IsLeftFor c s.cabinet)
  cache_left = closed_left c dt j d s.cabinet same closed

  stand_left : IsTrue mt → Every m.may_leave (MayEndIn c.digest s.stand)
  stand_left = marks_left mt digest c.digest m s.stand same_digest marks

  pub follower_restarts : (either : MarksEither) (source : Option ℕ) (clock : Readings) (Q : Type 0) → IsValid c → IsKnown t.cabinet → Q → OpensFollower c clock then_cache then_marks t.cabinet t.stand → t.out ≡ s.out → t.sent ≡ s.sent → nd ≤ nd' → nm ≤ nm'
      → Restarts c source then_cache then_marks same_outbox (IsSettled j) Q side.Follower (moment s (faults failed po nm nd)) (moment t (faults failed po nm' nd'))
  follower_restarts either source clock Q valid known settled f same_out same_sent later marks_later =
      let goes : IsTrue dt → GoesOnLater s.cabinet t.cabinet = λ is. goes_on_later c clock dt d.seen s.cabinet t.cabinet f.cache.replayed f.cache.begins (f.cache.opens is) known same (cache_left is d.seen (lawful is).reads_as).answers in
      record {
        runs = record {
          opens = λ is.
              let told = both_true dt (mt && ot) is in
              let marks_told = (both_true mt ot told.1).0 in
              opens_follower s t (goes told.0).goes (either c.digest s.stand t.stand.mark m.seen (stand_left marks_told m.seen (marks_lawful marks_told).reads_as) (f.mark marks_told)) f.sure same_out same_sent;
          greater = λ is. (goes (both_true dt (mt && ot) is).0).later;
          same_catalogue = ap (λ (x : State). x.catalogue) f.cache.begins ∙ sym same;
          decided = f.sure;
          same_out = same_out;
          same_sent = same_sent;
        };
        later = record { source = omega arith; outbox = omega arith; marks = marks_later; cabinet = later };
        goes = λ is. record { later = let e = (goes is).later in omega (arith, e); answers = (goes is).goes.answers };
        cache_images = λ is. left_opening c s.cabinet d d' (lawful is) (cache_left is) (f.leaves is);
        marks_images = λ is. quiet_images m m' (MayEndIn c.digest s.stand) (f.quiet is) (stand_left is);
        posts_images = λ is. leaves_none o (MayOpenTo c s.out);
        stays_settled = λ was. settled;
        still_sound = λ is settles sound. subst IsSound (sym f.cache.begins) (opened_sound dt c d.seen clock f.cache.replayed valid is (subst (λ (x : Catalogue). IsSoundImage x d.seen) same (closed.sound is settles sound d.seen (lawful is).reads_as)) (f.cache.opens is));
      }

  pub follower_closed : (cause : OpenFault) (MarksStay : Type 0) → (IsTrue dt → IsLawful d') → (IsTrue ot → IsLawful o) → RefusesFollower c s.cabinet.clock then_cache then_marks MarksStay cause → OpeningLeaves c then_cache → (IsTrue mt → ChangesBy Same m m') → (IsTrue ot → Every o.may_leave (MayOpenTo c s.out))
      → StaysClosed c then_cache then_marks same_outbox side.Follower (moment s (faults failed po nm nd)) cause
  follower_closed cause MarksStay lawful_then posts_lawful refuses leaves quiet posts =
      let images : IsTrue dt → Leaves d d' (IsLeftFor c s.cabinet) = λ is. left_opening c s.cabinet d d' (lawful is) (cache_left is) (leaves is) in
      record {
        refuses = stays_anyway refuses;
        cache_seen = λ is. cache_left is d.seen (lawful is).reads_as;
        marks_seen = λ is. stand_left is m.seen (marks_lawful is).reads_as;
        posts_seen = λ is. posts is o.seen (posts_lawful is).reads_as;
        left = leaves_twin c s then_cache then_marks same_outbox same (λ is image left. left_now is image (now_left d d' (IsLeftFor c s.cabinet) (lawful is) (lawful_then is) (images is) image left)) (λ is. quiet_left m m' (MayEndIn c.digest s.stand) (quiet is) (stand_left is)) posts;
        cache_images = images;
        marks_images = λ is. quiet_images m m' (MayEndIn c.digest s.stand) (quiet is) (stand_left is);
        posts_images = λ is. leaves_none o (MayOpenTo c s.out);
      }
    where
      left_now : IsTrue dt → (image : Content) → d.may_leave image ⊎ IsLeftFor c s.cabinet image → IsLeftFor c s.cabinet image
      left_now is image (inl was) = cache_left is image was
      left_now is image (inr left) = left

      stays_anyway : RefusesFollower c s.cabinet.clock then_cache then_marks MarksStay cause → RefusesFollower c s.cabinet.clock then_cache then_marks ⊤ cause
      stays_anyway (inl refused) = inl (refused.0, tt)
      stays_anyway (inr refused) = inr refused

-- memory ran out before anything was closed
pub starved_follower : (c : Catalogue) (dt mt ot : Bool) (d m o : DiskState) (nd nm po failed : ℕ) (s : TwinStanding) (j : Journal) (digest : List ℕ) → (IsTrue dt → IsLawful d) → (IsTrue mt → IsLawful m) → (IsTrue ot → IsLawful o) → s.cabinet.catalogue ≡ c → digest ≡ c.digest → IsCacheClosed dt j d s.cabinet → (IsTrue mt → Every m.may_leave (MayEndIn digest s.stand)) → (IsTrue ot → Every o.may_leave (MayOpenTo c s.out))
    → StaysClosed c (record { told = dt; faults = counts nd nd; from = d; to = d }) (record { told = mt; faults = counts nm nm; from = m; to = m }) (record { told = ot; faults = counts po po; from = o; to = o }) side.Follower (moment s (faults failed po nm nd)) fault.OutOfMemory
starved_follower c dt mt ot d m o nd nm po failed s j digest lawful marks_lawful posts_lawful same same_digest closed marks posts = record {
  cache_seen = λ is. closed_left c dt j d s.cabinet same closed is d.seen (lawful is).reads_as;
  marks_seen = λ is. marks_left mt digest c.digest m s.stand same_digest marks is m.seen (marks_lawful is).reads_as;
  posts_seen = λ is. posts is o.seen (posts_lawful is).reads_as;
  refuses = inl (record { refused = tt; leaves = λ is. leaves_none d (LeftByOpening c d) }, tt);
  left = leaves_twin c s _ _ _ same (closed_left c dt j d s.cabinet same closed) (marks_left mt digest c.digest m s.stand same_digest marks) posts;
  cache_images = λ is. leaves_none d (IsLeftFor c s.cabinet);
  marks_images = λ is. leaves_none m (MayEndIn c.digest s.stand);
  posts_images = λ is. leaves_none o (MayOpenTo c s.out);
}
