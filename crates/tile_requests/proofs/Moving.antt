-- What single events of a request come to, and events one after another.
use Rattle.std.proofs.Common.{◌≡◌, ℕ, ◌+◌, ◌≤◌, Bool, true, false, ◌++◌, length, Option, Some, None, inl, inr, refl, sym, ap, ◌∙◌, subst, arith, append_assoc}
use Rattle.std.specs.Prelude.{◌⊎◌}
use Rattle.std.proofs.lemmas.List.{length-append}
use Rattle.cabinet.specs.Commands.{answering}
use Rattle.cabinet.specs.History.{History, next}
use Rattle.cabinet.specs.State.{State, asked_at, now}
use Rattle.cabinet.specs.declared.kept.Kept.{Kept}
use Rattle.cache_core.specs.declared.actor.Actor.{Actor}
use Rattle.cache_core.specs.declared.actor.Actor.TheVariants as actor
use Rattle.cache_core.specs.declared.actor.Step.{Step}
use Rattle.cache_core.specs.Advanced.{Advances}
use Rattle.cache_core.specs.Begun.{Begins}
use Rattle.cache_core.specs.Fits.{IsFit, IsFreshActor, ExtendsHistory, place_of}
use Rattle.cache_core.specs.Shown.{shown, IsFailed, IsIdle}
use Rattle.cache_core.specs.Steps.{Stepped, given, unless_busy, unless_kept, unless_unread, began, advanced}
use Rattle.base.specs.Causes.{Rose}
use Rattle.matrix_geometry.specs.declared.address.Address.{Address}
use Rattle.metatile_locks.specs.Running.{running_for}
use Rattle.raster_field.specs.Blocks.{block_of}
use Rattle.tile_requests.specs.Events.{StayCovered, failing, GoesOn, MovesRequest, GoesFurther}
use Rattle.tile_requests.specs.Requests.{owed, is_at_work}

-- HISTORIES GO ON

pub longer : (h g f : History) → ExtendsHistory h g → ExtendsHistory g f → ExtendsHistory h f
longer h g f x y = (x.0 ++ y.0, y.1 ∙ rw x.1 (append_assoc h x.0 y.0))

pub within_longer : (h g : History) (p : ℕ) → ExtendsHistory h g → p ≤ length h → p ≤ length g
within_longer h g p x l = let e : length g ≡ length h + length x.0 = ap length x.1 ∙ length-append h x.0 in omega arith

-- COUNTS

pub stay_covered : (before after old new : ℕ) → before ≤ after → new ≤ old → StayCovered before after old new
stay_covered before after old new l m from others h = omega arith

pub rise_covered : (before after old new : ℕ) → before ≤ after → Rose before after → new ≤ old + 1 → StayCovered before after old new
rise_covered before after old new l r m from others h = omega arith

-- AN ASK OR A FORCE

abbrev Plain : Stepped → Type 0
Plain r = GoesOn r.actor r.outcome × (failing r.outcome + owed r.actor ≡ 0)

plain_given : (s : State) (a : Address) (n : Option ℕ) → Plain (given s a n)
plain_given s a None = (refl, refl)
plain_given s a (Some k) = (λ idle. idle, refl)

plain_busy : (s : State) (a : Address) (force : Bool) (n : Option ℕ) → Plain (unless_busy s a force n)
plain_busy s a force (Some k) = (λ idle. idle, refl)
plain_busy s a force None = plain_given s a (next s.opening (now s))

plain_kept : (s : State) (a : Address) (bytes : Option (ℕ → ℕ)) (t : Option Kept) → Plain (unless_kept s a bytes t)
plain_kept s a bytes (Some t) = (refl, refl)
plain_kept s a bytes None = plain_busy s a false (running_for (block_of s.catalogue a) (now s).out)

plain_began : (s : State) (a : Address) (force left : Bool) (n : ℕ) (unread : Bool) (bytes : Option (ℕ → ℕ)) → Plain (began s a force left n unread bytes)
plain_began s a force false n unread bytes = (refl, refl)
plain_began s a true true n unread bytes = let u = asked_at n s in plain_busy u a true (running_for (block_of s.catalogue a) (now u).out)
plain_began s a false true n unread bytes = let u = asked_at n s in plain_kept u a bytes (unless_unread unread (answering u a))

pub begun_moves : (told : Option ℕ) (n disk_before disk_after : ℕ) (s : State) (a : Address) (force : Bool) (step : Step) (t : State) → Begins disk_before disk_after s a force step t → MovesRequest told n n s actor.Idle a (length s.history) step t
begun_moves told n disk_before disk_after s a force step t h =
    let P : Stepped → Type 0 = Plain in
    let plain : Plain (shown step t) = subst P (sym h.began) (plain_began s a force h.left h.moment h.unread h.bytes) in
    let none = plain.1 in
    record {
      fits = h.fits;
      goes_on = plain.0;
      later = omega arith;
      failed = stay_covered n n 0 (failing step.outcome + owed step.actor) (omega arith) (omega arith);
      sound = λ tells is held. h.sound is;
      held = λ tells is held. h.actor;
      truth = λ tells is held. h.truth is;
      within = within_longer s.history t.history (length s.history) h.grows (omega arith);
      held_fresh = h.held_fresh;
      fresh = h.fresh;
      grows = h.grows;
      catalogue = h.catalogue;
    }

-- A FURTHER EVENT

abbrev Further : Actor → Stepped → Type 0
Further x r = GoesOn r.actor r.outcome × ((failing r.outcome + owed r.actor ≤ owed x) ⊎ (IsFailed r.actor × (failing r.outcome + owed r.actor ≤ owed x + 1)))

further_after : (s : State) (x : Actor) (left : Bool) (n : ℕ) (unread : Bool) (bytes : Option (ℕ → ℕ)) (unwritten : Bool) → (IsIdle x → ⊥) → Further x (advanced s x left n unread bytes unwritten)
further_after s actor.Idle left n unread bytes unwritten busy = absurd (busy tt)
further_after s (actor.Waiting a force) left n unread bytes unwritten busy = let p = plain_began s a force left n unread bytes in let none = p.1 in (p.0, inl (omega arith))
further_after s (actor.Holding t a) false n unread bytes unwritten busy = (refl, inl (omega arith))
further_after s (actor.Holding t a) true n unread None unwritten busy = (λ idle. idle, inr (tt, omega arith))
further_after s (actor.Holding t a) true n unread (Some bytes) unwritten busy = (λ idle. idle, inl (omega arith))
further_after s (actor.Rendered t text tile) left n unread bytes unwritten busy = (refl, inl (omega arith))
further_after s (actor.Failed t) left n unread bytes unwritten busy = (refl, inl (omega arith))

-- a request goes on after an event, or has its outcome
pub advance_goes : (told : Option ℕ) (before after disk_before disk_after : ℕ) (s : State) (x : Actor) (step : Step) (t : State) → (IsIdle x → ⊥) → Advances told before after disk_before disk_after s x step t → GoesOn step.actor step.outcome
advance_goes told before after disk_before disk_after s x step t busy h =
    let P : Stepped → Type 0 = Further x in
    let after_it : Further x (shown step t) = subst P (sym h.advanced) (further_after s x h.left h.moment h.unread h.bytes h.unwritten busy) in
    after_it.0

place_within : (x : Actor) (here p : ℕ) → p ≤ here → place_of x here p ≤ here
place_within actor.Idle here p l = l
place_within (actor.Waiting a force) here p l = omega arith
place_within (actor.Holding t a) here p l = l
place_within (actor.Rendered t text tile) here p l = l
place_within (actor.Failed t) here p l = l

pub advance_moves : (told : Option ℕ) (before after disk_before disk_after : ℕ) (s : State) (x : Actor) (a : Address) (p : ℕ) (step : Step) (t : State)
    → IsFit s.catalogue a x → (IsIdle x → ⊥) → p ≤ length s.history → IsFreshActor s.catalogue s.history p a x → Advances told before after disk_before disk_after s x step t
    → MovesRequest told before after s x a (place_of x (length s.history) p) step t
advance_moves told before after disk_before disk_after s x a p step t fit busy within fresh h =
    let P : Stepped → Type 0 = Further x in
    let after_it : Further x (shown step t) = subst P (sym h.advanced) (further_after s x h.left h.moment h.unread h.bytes h.unwritten busy) in
    record {
      fits = h.fits a fit;
      goes_on = after_it.0;
      later = h.later;
      failed = counted after_it.1;
      sound = h.sound;
      held = h.held;
      truth = h.truth a fit;
      within = within_longer s.history t.history (place_of x (length s.history) p) h.grows (place_within x (length s.history) p within);
      held_fresh = h.held_fresh a p fit within fresh;
      fresh = h.fresh a p fit within fresh;
      grows = h.grows;
      catalogue = h.catalogue;
    }
  where
    counted : (failing step.outcome + owed step.actor ≤ owed x) ⊎ (IsFailed step.actor × (failing step.outcome + owed step.actor ≤ owed x + 1)) → StayCovered before after (owed x) (failing step.outcome + owed step.actor)
    counted (inl l) = stay_covered before after (owed x) (failing step.outcome + owed step.actor) h.later l
    counted (inr l) = rise_covered before after (owed x) (failing step.outcome + owed step.actor) h.later (h.cause l.0) l.1

-- ONE AFTER ANOTHER

module _ (told : Option ℕ) (before mid after : ℕ) (s u t : State) (first : Actor) (a : Address) (p : ℕ) (old step : Step) (m : MovesRequest told before mid s first a p old u) where
  both_covered : StayCovered mid after (owed old.actor) (failing step.outcome + owed step.actor) → StayCovered before after (owed first) (failing step.outcome + owed step.actor)
  both_covered k from others h = let j = m.failed from others h in k from others (omega arith)

  joined : MovesRequest told mid after u old.actor a p step t → MovesRequest told before after s first a p step t
  joined k =
      let tells : told ≡ Some s.catalogue.source → told ≡ Some u.catalogue.source = λ e. rw m.catalogue e in
      record {
        fits = rw (sym m.catalogue) k.fits;
        goes_on = k.goes_on;
        later = let i = m.later in let j = k.later in omega arith;
        failed = both_covered k.failed;
        sound = λ e is held. k.sound (tells e) (m.sound e is held) (rw m.catalogue (m.held e is held));
        held = λ e is held. rw (sym m.catalogue) (k.held (tells e) (m.sound e is held) (rw m.catalogue (m.held e is held)));
        truth = λ e is held. rw (sym m.catalogue) (k.truth (tells e) (m.sound e is held) (rw m.catalogue (m.held e is held)));
        within = k.within;
        held_fresh = rw (sym m.catalogue) k.held_fresh;
        fresh = rw (sym m.catalogue) k.fresh;
        grows = longer s.history u.history t.history m.grows k.grows;
        catalogue = k.catalogue ∙ m.catalogue;
      }

busy_at_work : (x : Actor) → is_at_work x ≡ true → IsIdle x → ⊥
busy_at_work actor.Idle e idle = let f : false ≡ true = e in cc
busy_at_work (actor.Waiting b force) e idle = idle
busy_at_work (actor.Holding t b) e idle = idle
busy_at_work (actor.Rendered t text tile) e idle = idle
busy_at_work (actor.Failed t) e idle = idle

place_stays : (x : Actor) (here p : ℕ) → is_at_work x ≡ true → place_of x here p ≡ p
place_stays actor.Idle here p e = refl
place_stays (actor.Waiting b force) here p e = let f : false ≡ true = e in cc
place_stays (actor.Holding t b) here p e = refl
place_stays (actor.Rendered t text tile) here p e = refl
place_stays (actor.Failed t) here p e = refl

-- the actor goes further, where it has work
pub moves_further : (told : Option ℕ) (before mid after disk_mid disk_after : ℕ) (s u t : State) (first : Actor) (a : Address) (p : ℕ) (old step : Step) → MovesRequest told before mid s first a p old u → p ≤ length u.history
    → GoesFurther told mid after disk_mid disk_after u old step t → MovesRequest told before after s first a p step t
moves_further told before mid after disk_mid disk_after s u t first a p old step m within (inl h) =
    let P : Step → State → Type 0 = λ x y. MovesRequest told before after s first a p x y in
    let stays : MovesRequest told before after s first a p old u =
    record {
      fits = m.fits;
      goes_on = m.goes_on;
      later = let i = m.later in let j = h.3 in omega arith;
      failed = λ from others c. let j = m.failed from others c in let l = h.3 in omega arith;
      sound = m.sound;
      held = m.held;
      truth = m.truth;
      within = m.within;
      held_fresh = m.held_fresh;
      fresh = m.fresh;
      grows = m.grows;
      catalogue = m.catalogue;
    } in
    rw (h.1, h.2) stays
moves_further told before mid after disk_mid disk_after s u t first a p old step m within (inr h) =
    let Q : ℕ → Type 0 = λ q. MovesRequest told mid after u old.actor a q step t in
    joined told before mid after s u t first a p old step m
    (subst Q (place_stays old.actor (length u.history) p h.0)
    (advance_moves told mid after disk_mid disk_after u old.actor a p step t (rw m.catalogue m.fits) (busy_at_work old.actor h.0) within (rw m.catalogue m.held_fresh) h.1))
