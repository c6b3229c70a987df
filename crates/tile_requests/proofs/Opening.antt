-- The events of the line that asks for a tile.
use Rattle.std.proofs.Common.{◌≡◌, ◌≤◌, ℕ, Bool, true, false, Option, Some, None, inl, inr, refl, sym, ◌∙◌, subst, length, arith}
use Rattle.std.specs.Prelude.{⊤}
use Rattle.cabinet.specs.declared.kept.Kept.{Kept}
use Rattle.cabinet.specs.Commands.{answering}
use Rattle.cabinet.specs.History.{next}
use Rattle.cabinet.specs.State.{State, asked_at, now}
use Rattle.cache_core.specs.declared.actor.Actor.{Actor}
use Rattle.cache_core.specs.declared.actor.Actor.TheVariants as actor
use Rattle.cache_core.specs.declared.actor.Step.{Step}
use Rattle.cache_core.specs.Begun.{Begins}
use Rattle.cache_core.specs.Shown.{shown}
use Rattle.cache_core.specs.Steps.{Stepped, began, advanced, disk_faults, given, unless_busy, unless_kept, unless_unread}
use Rattle.base.specs.Causes.{RoseBy}
use Rattle.matrix_geometry.specs.declared.address.Address.{Address}
use Rattle.metatile_locks.specs.Running.{running_for}
use Rattle.raster_field.specs.Blocks.{block_of}
use Rattle.tile_requests.specs.declared.request.Mode.{Mode}
use Rattle.tile_requests.specs.declared.request.Mode.TheVariants.{Gets, Asks, Forces}
use Rattle.tile_requests.specs.Events.{BeginsByLine, GoesFurther}
use Rattle.tile_requests.specs.Requests.{Chance, is_at_work, further}
use Rattle.tile_requests.proofs.Moving.{begun_moves, moves_further}

-- a chance at an ask with its moment, a further event and a render, and with faults of the disk
abbrev at_chance : Bool → ℕ → Bool → Bool → Option (ℕ → ℕ) → Bool → Chance
at_chance ask moment unread work bytes unwritten = record { read = true; ask = ask; moment = moment; unread = unread; work = work; bytes = bytes; unwritten = unwritten; left = true }

module _ (told : Option ℕ) (n disk_before disk_after : ℕ) (s : State) (a : Address) (mode : Mode) (step : Step) (t : State) where
  pub opens_asks : mode ≡ Asks → Begins disk_before disk_after s a false step t → BeginsByLine told n n disk_before disk_after s a mode step t
  opens_asks e h = record {
    chance = at_chance h.left h.moment h.unread true h.bytes false;
    made = rw e h.began;
    disk_later = h.later;
    disk_cause = h.cause;
    moves = begun_moves told n disk_before disk_after s a false step t h;
  }

  pub opens_forces : mode ≡ Forces → Begins disk_before disk_after s a true step t → BeginsByLine told n n disk_before disk_after s a mode step t
  opens_forces e h = record {
    chance = at_chance h.left h.moment h.unread true h.bytes false;
    made = rw e h.began;
    disk_later = h.later;
    disk_cause = h.cause;
    moves = begun_moves told n disk_before disk_after s a true step t h;
  }

-- the actor has no render before it
abbrev NoRender : Actor → Type 0
NoRender actor.Idle = ⊤
NoRender (actor.Waiting a force) = ⊤
NoRender (actor.Holding t a) = ⊥
NoRender (actor.Rendered t blob tile) = ⊤
NoRender (actor.Failed t) = ⊤

-- after one event of an actor that has work there is no render in its line
one_render : (s : State) (x : Actor) (left : Bool) (n : ℕ) (unread : Bool) (bytes : Option (ℕ → ℕ)) (unwritten : Bool) → is_at_work x ≡ true → NoRender (advanced s x left n unread bytes unwritten).actor
one_render s actor.Idle left n unread bytes unwritten e = let f : false ≡ true = e in cc
one_render s (actor.Waiting b force) left n unread bytes unwritten e = let f : false ≡ true = e in cc
one_render s (actor.Holding t b) false n unread bytes unwritten e = tt
one_render s (actor.Holding t b) true n unread None unwritten e = tt
one_render s (actor.Holding t b) true n unread (Some bytes) unwritten e = tt
one_render s (actor.Rendered t text tile) left n unread bytes unwritten e = tt
one_render s (actor.Failed t) left n unread bytes unwritten e = tt

-- chance has no part in an event without a render, but for what goes unwritten
no_chance : (s : State) (x : Actor) (left left' : Bool) (n n' : ℕ) (unread unread' : Bool) (bytes bytes' : Option (ℕ → ℕ)) (unwritten : Bool) → NoRender x → is_at_work x ≡ true
    → advanced s x left n unread bytes unwritten ≡ advanced s x left' n' unread' bytes' unwritten
no_chance s actor.Idle left left' n n' unread unread' bytes bytes' unwritten none e = let f : false ≡ true = e in cc
no_chance s (actor.Waiting b force) left left' n n' unread unread' bytes bytes' unwritten none e = let f : false ≡ true = e in cc
no_chance s (actor.Holding t b) left left' n n' unread unread' bytes bytes' unwritten none e = absurd none
no_chance s (actor.Rendered t text tile) left left' n n' unread unread' bytes bytes' unwritten none e = refl
no_chance s (actor.Failed t) left left' n n' unread unread' bytes bytes' unwritten none e = refl

-- the actor has no blob to hand in
abbrev NoBlob : Actor → Type 0
NoBlob actor.Idle = ⊤
NoBlob (actor.Waiting a force) = ⊤
NoBlob (actor.Holding t a) = ⊤
NoBlob (actor.Rendered t blob tile) = ⊥
NoBlob (actor.Failed t) = ⊤

-- clock and disk have no part in an event of an actor that has work, and no blob to hand in
no_moment : (s : State) (x : Actor) (left : Bool) (n n' : ℕ) (unread unread' : Bool) (bytes : Option (ℕ → ℕ)) (unwritten unwritten' : Bool) → NoBlob x → is_at_work x ≡ true
    → advanced s x left n unread bytes unwritten ≡ advanced s x left n' unread' bytes unwritten'
no_moment s actor.Idle left n n' unread unread' bytes unwritten unwritten' none e = let f : false ≡ true = e in cc
no_moment s (actor.Waiting b force) left n n' unread unread' bytes unwritten unwritten' none e = let f : false ≡ true = e in cc
no_moment s (actor.Holding t b) left n n' unread unread' bytes unwritten unwritten' none e = refl
no_moment s (actor.Rendered t text tile) left n n' unread unread' bytes unwritten unwritten' none e = absurd none
no_moment s (actor.Failed t) left n n' unread unread' bytes unwritten unwritten' none e = refl

-- an ask leaves no blob to hand in
no_blob : (s : State) (a : Address) (left : Bool) (n : ℕ) (unread : Bool) (bytes : Option (ℕ → ℕ)) → NoBlob (began s a false left n unread bytes).actor
no_blob s a false n unread bytes = tt
no_blob s a true n unread bytes = asked (unless_unread unread (answering (asked_at n s) a))
  where
    given_none : (o : Option ℕ) → NoBlob (given (asked_at n s) a o).actor
    given_none None = tt
    given_none (Some k) = tt

    wanted : (o : Option ℕ) → NoBlob (unless_busy (asked_at n s) a false o).actor
    wanted (Some j) = tt
    wanted None = given_none (next s.opening (now (asked_at n s)))

    asked : (o : Option Kept) → NoBlob (unless_kept (asked_at n s) a bytes o).actor
    asked (Some t) = tt
    asked None = wanted (running_for (block_of s.catalogue a) (now (asked_at n s)).out)

further_stays : (c : Chance) (r : Stepped) → is_at_work r.actor ≡ false → further c r ≡ r
further_stays c r e = rw e refl

further_goes : (c : Chance) (r : Stepped) → is_at_work r.actor ≡ true → further c r ≡ advanced r.cabinet r.actor c.work c.moment c.unread c.bytes c.unwritten
further_goes c r e = rw e refl

-- where an ask leaves work to do, no kept blob was read
no_hit : (s : State) (a : Address) (left : Bool) (n : ℕ) (unread : Bool) (bytes others : Option (ℕ → ℕ)) → is_at_work (began s a false left n unread bytes).actor ≡ true
    → began s a false left n unread bytes ≡ began s a false left n unread others
no_hit s a false n unread bytes others e = refl
no_hit s a true n unread bytes others e = no_kept (unless_unread unread (answering (asked_at n s) a)) e
  where
    no_kept : (o : Option Kept) → is_at_work (unless_kept (asked_at n s) a bytes o).actor ≡ true → unless_kept (asked_at n s) a bytes o ≡ unless_kept (asked_at n s) a others o
    no_kept None is = refl
    no_kept (Some t) is = let f : false ≡ true = is in cc

-- what went unread at the ask, and unwritten at the last event, is no more than the disk's count rose by
both_rose : (unread other unwritten : Bool) (first second third last : ℕ) → RoseBy (disk_faults unread false) first second → second ≤ third → RoseBy (disk_faults other unwritten) third last
    → RoseBy (disk_faults unread unwritten) first last
both_rose unread other unwritten first second third last h l k = omega arith

abbrev Twice : State → Address → Bool → ℕ → Bool → ℕ → ℕ → Step → State → Type 0
Twice s a ask n unread disk_before disk_after step t =
    (work : Bool) × (bytes : Option (ℕ → ℕ)) × (unwritten : Bool) × RoseBy (disk_faults unread unwritten) disk_before disk_after
    × (shown step t ≡ further (at_chance ask n unread work bytes unwritten) (further (at_chance ask n unread work bytes unwritten) (began s a false ask n unread bytes)))

module _ (told : Option ℕ) (before mid after disk_before disk_asked disk_mid disk_after : ℕ) (s u v t : State) (a : Address) (ask : Bool) (n : ℕ) (unread : Bool) (read : Option (ℕ → ℕ)) (asked rendered step : Step)
    (h : shown asked u ≡ began s a false ask n unread read) (rose : RoseBy (disk_faults unread false) disk_before disk_asked) where
  twice : GoesFurther told before mid disk_asked disk_mid u asked rendered v → GoesFurther told mid after disk_mid disk_after v rendered step t → Twice s a ask n unread disk_before disk_after step t
  twice (inl f) k =
      let c = at_chance ask n unread true read false in
      let e : shown asked u ≡ further c (began s a false ask n unread read) = rw (sym h) (sym (further_stays c (shown asked u) f.0)) in
      let d : shown rendered v ≡ shown asked u = rw (f.1, f.2) refl in
      (true, read, false, none_rose k (rw f.1 f.0), still c k (d ∙ e) (rw f.1 f.0))
    where
      none_rose : GoesFurther told mid after disk_mid disk_after v rendered step t → is_at_work rendered.actor ≡ false → RoseBy (disk_faults unread false) disk_before disk_after
      none_rose (inl g) none = let l = f.4 in let m = g.4 in omega arith
      none_rose (inr g) none = let f : false ≡ true = sym none ∙ g.0 in cc

      still : (c : Chance) → GoesFurther told mid after disk_mid disk_after v rendered step t → shown rendered v ≡ further c (began s a false ask n unread read) → is_at_work rendered.actor ≡ false
          → shown step t ≡ further c (further c (began s a false ask n unread read))
      still c (inl g) e none = let d : shown step t ≡ shown rendered v = rw (g.1, g.2) refl in rw (sym e) (d ∙ sym (further_stays c (shown rendered v) none))
      still c (inr g) e none = let f : false ≡ true = sym none ∙ g.0 in cc
  twice (inr f) k = again k
    where
      -- the first further event, whatever goes unwritten in the second
      first_is : (unwritten : Bool) → shown rendered v ≡ further (at_chance ask n unread f.1.left f.1.bytes unwritten) (began s a false ask n unread f.1.bytes)
      first_is unwritten =
          let P : Stepped → Type 0 = λ r. NoBlob r.actor in
          let same = h ∙ no_hit s a ask n unread read f.1.bytes (subst (λ (r : Stepped). is_at_work r.actor ≡ true) h f.0) in
          let none = subst P (sym h) (no_blob s a ask n unread read) in
          let goes : shown rendered v ≡ advanced u asked.actor f.1.left n unread f.1.bytes unwritten =
          f.1.advanced ∙ no_moment u asked.actor f.1.left f.1.moment n f.1.unread unread f.1.bytes f.1.unwritten unwritten none f.0 in
          rw (sym same) (goes ∙ sym (further_goes (at_chance ask n unread f.1.left f.1.bytes unwritten) (shown asked u) f.0))

      no_render : NoRender rendered.actor
      no_render =
          let P : Stepped → Type 0 = λ r. NoRender r.actor in
          subst P (sym f.1.advanced) (one_render u asked.actor f.1.left f.1.moment f.1.unread f.1.bytes f.1.unwritten f.0)

      again : GoesFurther told mid after disk_mid disk_after v rendered step t → Twice s a ask n unread disk_before disk_after step t
      again (inl g) =
          let c = at_chance ask n unread f.1.left f.1.bytes false in
          let d : shown step t ≡ shown rendered v = rw (g.1, g.2) refl in
          let l = f.1.disk_later in let m = g.4 in
          (f.1.left, f.1.bytes, false, omega arith, rw (sym (first_is false)) (d ∙ sym (further_stays c (shown rendered v) g.0)))
      again (inr g) =
          let c = at_chance ask n unread f.1.left f.1.bytes g.1.unwritten in
          let same = no_chance v rendered.actor g.1.left c.work g.1.moment c.moment g.1.unread c.unread g.1.bytes c.bytes g.1.unwritten no_render g.0 in (
            f.1.left,
            f.1.bytes,
            g.1.unwritten,
            both_rose unread g.1.unread g.1.unwritten disk_before disk_asked disk_mid disk_after rose f.1.disk_later g.1.disk_cause,
            rw (sym (first_is g.1.unwritten)) (g.1.advanced ∙ same ∙ sym (further_goes c (shown rendered v) g.0)),
          )

-- a further event leaves the disk's count no less
further_later : (told : Option ℕ) (before after disk_before disk_after : ℕ) (s t : State) (old step : Step) → GoesFurther told before after disk_before disk_after s old step t → disk_before ≤ disk_after
further_later told before after disk_before disk_after s t old step (inl h) = h.4
further_later told before after disk_before disk_after s t old step (inr h) = h.1.disk_later

pub opens_gets : (told via : Option ℕ) (before mid after disk_before disk_asked disk_mid disk_after : ℕ) (s u v t : State) (a : Address) (mode : Mode) (asked rendered step : Step) → mode ≡ Gets
    → Begins disk_before disk_asked s a false asked u → GoesFurther told before mid disk_asked disk_mid u asked rendered v → via ≡ told → GoesFurther via mid after disk_mid disk_after v rendered step t
    → BeginsByLine told before after disk_before disk_after s a mode step t
opens_gets told via before mid after disk_before disk_asked disk_mid disk_after s u v t a mode asked rendered step e h f same k =
    let g : GoesFurther told mid after disk_mid disk_after v rendered step t = rw (sym same) k in
    let w = twice told before mid after disk_before disk_asked disk_mid disk_after s u v t a h.left h.moment h.unread h.bytes asked rendered step h.began h.cause f g in
    let first = begun_moves told before disk_before disk_asked s a false asked u h in
    let second = moves_further told before before mid disk_asked disk_mid s u v actor.Idle a (length s.history) asked rendered first first.within f in
    let i = h.later in
    let j = further_later told before mid disk_asked disk_mid u v asked rendered f in
    let l = further_later told mid after disk_mid disk_after v t rendered step g in
    record {
      chance = at_chance h.left h.moment h.unread w.0 w.1 w.2;
      made = rw e w.4;
      disk_later = omega arith;
      disk_cause = w.3;
      moves = moves_further told before mid after disk_mid disk_after s v t actor.Idle a (length s.history) rendered step second second.within g;
    }
