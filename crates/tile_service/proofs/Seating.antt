-- What holds of worlds after events of one actor.
use Rattle.std.proofs.Common.{◌≡◌, ℕ, zero, suc, ◌+◌, ◌≤◌, Bool, true, false, List, [], ◌∷◌, length, slice_get, slice_set, Option, Some, None, refl, ap, subst, arith}
use Rattle.std.specs.Prelude.{if◌then◌else◌, sum_by}
use Rattle.std.specs.List.{AllByRecursion}
use Rattle.std.proofs.lemmas.List.Sums.{sum_by-cons}
use Rattle.cabinet.specs.History.{History}
use Rattle.cabinet.specs.State.{State}
use Rattle.cache_core.specs.declared.actor.Actor.{Actor}
use Rattle.cache_core.specs.declared.actor.Actor.TheVariants as actor
use Rattle.cache_core.specs.declared.actor.Step.{Step}
use Rattle.cache_core.specs.declared.outcome.TileOutcome as cached
use Rattle.cache_core.specs.declared.outcome.TileOutcome.TheVariants as core
use Rattle.cache_core.specs.Fits.{IsFreshActor, IsFreshOutcome, IsTrueActor, IsTrueOutcome, ExtendsHistory}
use Rattle.cache_core.proofs.Endings.{extends_fresh}
use Rattle.catalog.specs.declared.catalogue.Catalogue.{Catalogue}
use Rattle.matrix_geometry.specs.declared.address.Address.{Address}
use Rattle.tile_requests.specs.Events.{StayCovered, failing, GoesOn, MovesRequest}
use Rattle.tile_requests.specs.declared.outcome.Outcome.{Outcome}
use Rattle.tile_requests.specs.declared.outcome.Outcome.TheVariants as outcome
use Rattle.tile_requests.specs.declared.outcome.Plain.TheVariants as plain
use Rattle.tile_requests.specs.declared.request.Request.TheVariants as request
use Rattle.tile_requests.specs.Requests.{is_respelt, owed}
use Rattle.tile_requests.specs.Routes.{spelling_of}
use Rattle.tile_service.specs.OneLine.{IsSeat, IsTrueSeat, Keeps}
use Rattle.tile_service.specs.Run.{Answer, PendingRequest, seat_after, answers_after, failures, owed_at, unanswered, IsTrue, IsFresh, run_state_of}
use Rattle.tile_requests.proofs.Moving.{within_longer}

-- LISTS

pub all_set : {X : Type 0} (P : X → Type 0) (xs : List X) (i : ℕ) (x : X) → AllByRecursion P xs → P x → AllByRecursion P (slice_set xs i x)
all_set P [] i x all new = tt
all_set P (y ∷ ys) zero x all new = (new, all.1)
all_set P (y ∷ ys) (suc i) x all new = (all.0, all_set P ys i x all.1 new)

pub all_mapped : {X : Type 0} (P Q : X → Type 0) → ((x : X) → P x → Q x) → (xs : List X) → AllByRecursion P xs → AllByRecursion Q xs
all_mapped P Q f [] all = tt
all_mapped P Q f (x ∷ xs) all = (f x all.0, all_mapped P Q f xs all.1)

pub one_of_all : {X : Type 0} (P : X → Type 0) (xs : List X) (i : ℕ) (x : X) → slice_get xs i ≡ Some x → AllByRecursion P xs → P x
one_of_all P [] i x e all = let f : None ≡ Some x = e in cc
one_of_all P (y ∷ ys) zero x e all = let f : y ≡ x = cc in subst P f all.0
one_of_all P (y ∷ ys) (suc i) x e all = one_of_all P ys i x e all.1

-- a sum with one summand, before and after it is set
abbrev Rests : {X : Type 0} → (X → ℕ) → List X → ℕ → X → X → Type 0
Rests f xs i y x = (rest : ℕ) × (sum_by f xs ≡ rest + f y) × (sum_by f (slice_set xs i x) ≡ rest + f x)

pub sum_set : {X : Type 0} (f : X → ℕ) (xs : List X) (i : ℕ) (x y : X) → slice_get xs i ≡ Some y → Rests f xs i y x
sum_set f [] i x y e = let g : None ≡ Some y = e in cc
sum_set f (z ∷ zs) zero x y e =
    let g : z ≡ y = cc in
    let h : f z ≡ f y = ap f g in
    let old : sum_by f (z ∷ zs) ≡ f z + sum_by f zs = sum_by-cons f z zs in
    let new : sum_by f (slice_set (z ∷ zs) zero x) ≡ f x + sum_by f zs = sum_by-cons f x zs in
    (sum_by f zs, omega arith, omega arith)
sum_set f (z ∷ zs) (suc i) x y e =
    let r = sum_set f zs i x y e in
    let a = r.1 in
    let b = r.2 in
    let old : sum_by f (z ∷ zs) ≡ f z + sum_by f zs = sum_by-cons f z zs in
    let new : sum_by f (slice_set (z ∷ zs) (suc i) x) ≡ f z + sum_by f (slice_set zs i x) = sum_by-cons f z (slice_set zs i x) in
    (f z + r.0, omega arith, omega arith)

-- SEATS LATER

actor_later : (c : Catalogue) (h g : History) (p : ℕ) (a : Address) (x : Actor) → ExtendsHistory h g → p ≤ length h → IsFreshActor c h p a x → IsFreshActor c g p a x
actor_later c h g p a actor.Idle more l f = tt
actor_later c h g p a (actor.Waiting b force) more l f = tt
actor_later c h g p a (actor.Holding t b) more l f = extends_fresh c h g p a t.number more l f
actor_later c h g p a (actor.Rendered t blob tile) more l f = extends_fresh c h g p a tile.number more l f
actor_later c h g p a (actor.Failed t) more l f = tt

seat_later : (c : Catalogue) (h g : History) → ExtendsHistory h g → (seat : Option PendingRequest) → IsSeat c h seat → IsSeat c g seat
seat_later c h g more None is = tt
seat_later c h g more (Some b) is =
    record { fits = is.fits; busy = is.busy; open_after = is.open_after; within = within_longer h g b.place more is.within; fresh = actor_later c h g b.place b.address b.actor more is.within is.fresh }

pub seats_later : (c : Catalogue) (h g : History) → ExtendsHistory h g → (seats : List (Option PendingRequest)) → AllByRecursion (IsSeat c h) seats → AllByRecursion (IsSeat c g) seats
seats_later c h g more seats all = all_mapped (IsSeat c h) (IsSeat c g) (seat_later c h g more) seats all

-- AFTER EVENTS OF ONE ACTOR

-- an outcome, or that of no memory
pub either : (P : Outcome → Type 0) (b : Bool) (o : Outcome) → P (outcome.Plain plain.NoMemory) → P o → P (if b then outcome.Plain plain.NoMemory else o)
either P true o none some = none
either P false o none some = some

module _ (told : Option ℕ) (before after : ℕ) (s t : State) (first : Actor) (b : PendingRequest) (step : Step) (m : MovesRequest told before after s first b.address b.place step t) (open_after : step.outcome ≡ None → b.message.last ≡ false) where
  seat_kept : (o : Option cached.TileOutcome) → step.outcome ≡ o → IsSeat s.catalogue t.history (seat_after b step.actor o)
  seat_kept (Some o) e = tt
  seat_kept None e = let P : Option cached.TileOutcome → Type 0 = GoesOn step.actor in record { fits = m.fits; busy = subst P e m.goes_on; open_after = open_after e; within = m.within; fresh = m.held_fresh }

  seat_true : (o : Option cached.TileOutcome) → IsTrueActor s.catalogue step.actor → IsTrueSeat s.catalogue (seat_after b step.actor o)
  seat_true (Some o) held = tt
  seat_true None held = held

  -- an answer of this outcome
  abbrev answer_so : ℕ → ℕ → Outcome → Answer
  answer_so n i o = record { line = n; actor = i; start = b.start; message = b.message; request = Some (request.Tile b.address); place = b.place; outcome = o }

  -- what is answered and what is owed is no more than the step has
  few : (n i : ℕ) (left : Bool) (o : Option cached.TileOutcome) → failures (answers_after n i left b o) + owed_at (seat_after b step.actor o) ≤ failing o + owed step.actor
  few n i left None = omega arith
  few n i true (Some (core.Tile tile)) = omega arith
  few n i true (Some core.SourceFailed) = omega arith
  few n i true (Some core.Spent) = omega arith
  few n i true (Some core.NoMemory) = omega arith
  few n i false (Some (core.Tile tile)) = either (λ o. failures (answer_so n i o ∷ []) + 0 ≤ 0 + owed step.actor) (is_respelt (spelling_of b.message)) _ (omega arith) (omega arith)
  few n i false (Some core.SourceFailed) = omega arith
  few n i false (Some core.Spent) = omega arith
  few n i false (Some core.NoMemory) = omega arith

  answers_true : (n i : ℕ) (left : Bool) (o : Option cached.TileOutcome) → IsTrueOutcome s.catalogue b.address o → AllByRecursion (IsTrue s.catalogue) (answers_after n i left b o)
  answers_true n i left None h = tt
  answers_true n i true (Some (core.Tile tile)) h = (h, tt)
  answers_true n i true (Some core.SourceFailed) h = (tt, tt)
  answers_true n i true (Some core.Spent) h = (tt, tt)
  answers_true n i true (Some core.NoMemory) h = (tt, tt)
  answers_true n i false (Some (core.Tile tile)) h = either (λ o. AllByRecursion (IsTrue s.catalogue) (answer_so n i o ∷ [])) (is_respelt (spelling_of b.message)) _ (tt, tt) (h, tt)
  answers_true n i false (Some core.SourceFailed) h = (tt, tt)
  answers_true n i false (Some core.Spent) h = (tt, tt)
  answers_true n i false (Some core.NoMemory) h = (tt, tt)

  answers_fresh : (n i : ℕ) (left : Bool) (o : Option cached.TileOutcome) → IsFreshOutcome s.catalogue t.history b.place b.address o → AllByRecursion (λ a. (a.place ≤ length t.history) × IsFresh s.catalogue t.history a) (answers_after n i left b o)
  answers_fresh n i left None h = tt
  answers_fresh n i true (Some (core.Tile tile)) h = ((m.within, h), tt)
  answers_fresh n i true (Some core.SourceFailed) h = ((m.within, tt), tt)
  answers_fresh n i true (Some core.Spent) h = ((m.within, tt), tt)
  answers_fresh n i true (Some core.NoMemory) h = ((m.within, tt), tt)
  answers_fresh n i false (Some (core.Tile tile)) h = either (λ o. AllByRecursion (λ a. (a.place ≤ length t.history) × IsFresh s.catalogue t.history a) (answer_so n i o ∷ [])) (is_respelt (spelling_of b.message)) _ ((m.within, tt), tt) ((m.within, h), tt)
  answers_fresh n i false (Some core.SourceFailed) h = ((m.within, tt), tt)
  answers_fresh n i false (Some core.Spent) h = ((m.within, tt), tt)
  answers_fresh n i false (Some core.NoMemory) h = ((m.within, tt), tt)

  module _ (document : List ℕ) (busy : List (Option PendingRequest)) (i : ℕ) (old : Option PendingRequest) (at : slice_get busy i ≡ Some old) (same : owed_at old ≡ owed first) (was : IsTrueSeat s.catalogue old → IsTrueActor s.catalogue first) where
    all_covered : (n : ℕ) (left : Bool) → StayCovered before after (unanswered busy) (failures (answers_after n i left b step.outcome) + unanswered (slice_set busy i (seat_after b step.actor step.outcome)))
    all_covered n left from others h =
        let r = sum_set owed_at busy i (seat_after b step.actor step.outcome) old at in
        let total = r.1 in
        let total' = r.2 in
        let l = few n i left step.outcome in
        let k = m.failed from (others + r.0) (omega arith) in
        omega arith

    seats_kept : AllByRecursion (IsSeat s.catalogue s.history) busy → AllByRecursion (IsSeat s.catalogue t.history) (slice_set busy i (seat_after b step.actor step.outcome))
    seats_kept all = all_set (IsSeat s.catalogue t.history) busy i _ (seats_later s.catalogue s.history t.history m.grows busy all) (seat_kept step.outcome refl)

    pub settled_keeps : (n : ℕ) (left : Bool) → Keeps told before after (run_state_of s document busy) (run_state_of t document (slice_set busy i (seat_after b step.actor step.outcome))) (answers_after n i left b step.outcome)
    settled_keeps n left =
        record {
          later = m.later;
          failed = all_covered n left;
          world = λ all. rw m.catalogue (seats_kept all);
          sound = λ e all is. (
            m.sound e is.0 (was (one_of_all (IsTrueSeat s.catalogue) busy i old at is.1)),
            rw m.catalogue (all_set (IsTrueSeat s.catalogue) busy i _ is.1 (seat_true step.outcome (m.held e is.0 (was (one_of_all (IsTrueSeat s.catalogue) busy i old at is.1))))),
          );
          truth = λ e all is. answers_true n i left step.outcome (m.truth e is.0 (was (one_of_all (IsTrueSeat s.catalogue) busy i old at is.1)));
          fresh = λ all. answers_fresh n i left step.outcome m.fresh;
          grows = m.grows;
          catalogue = m.catalogue;
          capabilities = refl;
        }
