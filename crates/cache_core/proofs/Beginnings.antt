-- The first event of a request: an ask or a force that comes to nothing yet, a ticket that is given, and a hit.
use Rattle.std.proofs.Common.{◌≡◌, ◌≤◌, ℕ, Bool, true, false, List, [], ◌∷◌, length, Option, Some, None, inl, inr, refl, sym, ◌∙◌, ap, subst, append_assoc, arith}
use Rattle.std.specs.Prelude.{IfSome}
use Rattle.std.specs.Option.{option_map_or}
use Rattle.cabinet.specs.Commands.{IsBusy, IsHit, IsSpent, IsTicketGiven, IsUnread}
use Rattle.cabinet.specs.declared.entry.HistoryEntry.{HistoryEntry}
use Rattle.cabinet.specs.declared.entry.HistoryEntry.TheVariants as entry
use Rattle.cabinet.specs.Fresh.{IsFresh}
use Rattle.cabinet.specs.State.{State, asked_at, kept_text, with_entry, IsSound}
use Rattle.base.specs.Causes.{RoseBy}
use Rattle.catalog.specs.LookUp.{IsTile}
use Rattle.matrix_geometry.specs.declared.address.Address.{Address}
use Rattle.metatile_locks.specs.Tickets.{Ticketed}
use Rattle.metatile_plan.specs.declared.metatile.MetaKey.{MetaKey}
use Rattle.raster_field.specs.Blocks.{blob_size, block_of, tile_part}
use Rattle.raster_field.specs.TileText.{tile_text}
use Rattle.cache_core.specs.declared.actor.Actor.{Actor}
use Rattle.cache_core.specs.declared.actor.Actor.TheVariants.{Idle, Waiting, Holding}
use Rattle.cache_core.specs.declared.actor.Step.{Step}
use Rattle.cache_core.specs.declared.outcome.TileOutcome.{TileOutcome}
use Rattle.cache_core.specs.declared.outcome.TileOutcome.TheVariants as outcome
use Rattle.cache_core.specs.Begun.{Begins}
use Rattle.cache_core.specs.Fits.{IsFit, IsAtWork, IsTrueActor, IsTrueOutcome, IsFreshActor, IsFreshOutcome, ExtendsHistory}
use Rattle.cache_core.specs.Shown.{shown, IsFailed}
use Rattle.cache_core.specs.Steps.{asked, began, blob_of, disk_faults, unless_kept, render_wanted, unless_busy, given, goes_on, ends, hit, ticket_for, tile_at}
use Rattle.cache_core.proofs.Endings.{byte_of, bytes_of_blob}

shown_as : (step : Step) (t : State) (actor : Actor) (o : Option TileOutcome) → step.actor ≡ actor → step.outcome ≡ o → shown step t ≡ record { cabinet = t; actor = actor; outcome = o }
shown_as step t actor o e f = rw e (rw f refl)

-- ONE ENTRY AFTER THE MOMENT of an ask or a force

entry_sound : (s t : State) (n : ℕ) (e : HistoryEntry) → t ≡ with_entry (asked_at n s) e → IsSound s → IsSound t
entry_sound s t n e h sound = subst IsSound (sym h) sound

entry_grows : (s t : State) (n : ℕ) (e : HistoryEntry) → t ≡ with_entry (asked_at n s) e → ExtendsHistory s.history t.history
entry_grows s t n e h = (entry.At n ∷ e ∷ [], ap (λ u. u.history) h ∙ append_assoc s.history (entry.At n ∷ []) (e ∷ []))

entry_catalogue : (s t : State) (n : ℕ) (e : HistoryEntry) → t ≡ with_entry (asked_at n s) e → t.catalogue ≡ s.catalogue
entry_catalogue s t n e h = ap (λ u. u.catalogue) h

-- NOTHING THAT IS KEPT ANSWERS

-- whether what is kept went unread
abbrev went_unread : (before after : ℕ) (s : State) (a : Address) → IsUnread before after s a → Bool
went_unread before after s a (inl unkept) = false
went_unread before after s a (inr rose) = true

unread_asked : (before after : ℕ) (s : State) (a : Address) (h : IsUnread before after s a) → asked s a false (went_unread before after s a h) None ≡ render_wanted s a false
unread_asked before after s a (inl unkept) = ap (unless_kept s a None) unkept
unread_asked before after s a (inr rose) = refl

unread_cause : (before after : ℕ) (s : State) (a : Address) → before ≤ after → (h : IsUnread before after s a) → RoseBy (disk_faults (went_unread before after s a h) false) before after
unread_cause before after s a later (inl unkept) = omega arith
unread_cause before after s a later (inr rose) = rose

-- WITHOUT A NUMBER

-- the clock was read, and nothing else was done
module _ (before after : ℕ) (later : before ≤ after) (s t : State) (n : ℕ) (a : Address) (step : Step) (tile : IsTile s.catalogue a) (same : t ≡ asked_at n s) where
  just_asked : (force unread : Bool) (actor : Actor) (o : Option TileOutcome) → RoseBy (disk_faults unread false) before after → step.actor ≡ actor → step.outcome ≡ o
      → asked (asked_at n s) a force unread None ≡ record { cabinet = asked_at n s; actor = actor; outcome = o }
      → IsAtWork s.catalogue a actor → IsTrueActor s.catalogue actor → (IsFailed actor → ⊥) → IsTrueOutcome s.catalogue a o
      → IsFreshActor s.catalogue t.history (length s.history) a actor → IsFreshOutcome s.catalogue t.history (length s.history) a o → Begins before after s a force step t
  just_asked force unread actor o cause is_actor is_outcome is_asked fits held working truth held_fresh fresh =
      let P : Actor → Type 0 = IsAtWork s.catalogue a in
      let Q : Actor → Type 0 = IsTrueActor s.catalogue in
      let R : Actor → Type 0 = IsFailed in
      let Truly : Option TileOutcome → Type 0 = IsTrueOutcome s.catalogue a in
      let Held : Actor → Type 0 = IsFreshActor s.catalogue t.history (length s.history) a in
      let Answered : Option TileOutcome → Type 0 = IsFreshOutcome s.catalogue t.history (length s.history) a in
      let at_end : record { cabinet = t; actor = actor; outcome = o } ≡ record { cabinet = asked_at n s; actor = actor; outcome = o } = ap (λ (u : State). record { cabinet = u; actor = actor; outcome = o }) same in
      record {
        left = true;
        moment = n;
        unread = unread;
        bytes = None;
        began = shown_as step t actor o is_actor is_outcome ∙ at_end ∙ sym is_asked;
        later = later;
        cause = cause;
        fits = record { tile = tile; work = subst P (sym is_actor) fits };
        actor = subst Q (sym is_actor) held;
        not_failed = λ f. working (subst R is_actor f);
        sound = λ sound. subst IsSound (sym same) sound;
        truth = λ sound. subst Truly (sym is_outcome) truth;
        held_fresh = subst Held (sym is_actor) held_fresh;
        fresh = subst Answered (sym is_outcome) fresh;
        grows = (entry.At n ∷ [], ap (λ u. u.history) same);
        catalogue = ap (λ u. u.catalogue) same;
      }

  -- where a render is wanted, the actor waits, or no number is left
  waits : (force unread : Bool) → RoseBy (disk_faults unread false) before after → asked (asked_at n s) a force unread None ≡ goes_on (asked_at n s) (Waiting a force)
      → step.actor ≡ Waiting a force → step.outcome ≡ None → Begins before after s a force step t
  waits force unread cause is_asked is_actor is_outcome = just_asked force unread (Waiting a force) None cause is_actor is_outcome is_asked refl tt (λ f. f) tt tt tt

  ends_spent : (force unread : Bool) → RoseBy (disk_faults unread false) before after → asked (asked_at n s) a force unread None ≡ ends (asked_at n s) outcome.Spent
      → step.actor ≡ Idle → step.outcome ≡ Some outcome.Spent → Begins before after s a force step t
  ends_spent force unread cause is_asked is_actor is_outcome = just_asked force unread Idle (Some outcome.Spent) cause is_actor is_outcome is_asked tt tt (λ f. f) tt tt tt

busy_wanted : (s t : State) (a : Address) (force : Bool) (k : ℕ) → IsBusy s (block_of s.catalogue a) k t → render_wanted s a force ≡ goes_on s (Waiting a force)
busy_wanted s t a force k is_busy = ap (unless_busy s a force) is_busy.0

spent_wanted : (s t : State) (a : Address) (force : Bool) → IsSpent s (block_of s.catalogue a) t → render_wanted s a force ≡ ends s outcome.Spent
spent_wanted s t a force is_spent = ap (unless_busy s a force) is_spent.0 ∙ ap (given s a) is_spent.1

module _ (before after : ℕ) (later : before ≤ after) (s t : State) (n : ℕ) (a : Address) (step : Step) (tile : IsTile s.catalogue a) where
  pub busy_asked : (k : ℕ) → IsUnread before after (asked_at n s) a → IsBusy (asked_at n s) (block_of s.catalogue a) k t → step.actor ≡ Waiting a false → step.outcome ≡ None → Begins before after s a false step t
  busy_asked k unread is_busy =
      let u = asked_at n s in
      waits before after later s t n a step tile is_busy.1 false (went_unread before after u a unread) (unread_cause before after u a later unread) (unread_asked before after u a unread ∙ busy_wanted u t a false k is_busy)

  pub busy_forced : (k : ℕ) → IsBusy (asked_at n s) (block_of s.catalogue a) k t → step.actor ≡ Waiting a true → step.outcome ≡ None → Begins before after s a true step t
  busy_forced k is_busy = waits before after later s t n a step tile is_busy.1 true false (omega arith) (busy_wanted (asked_at n s) t a true k is_busy)

  pub spent_asked : IsUnread before after (asked_at n s) a → IsSpent (asked_at n s) (block_of s.catalogue a) t → step.actor ≡ Idle → step.outcome ≡ Some outcome.Spent → Begins before after s a false step t
  spent_asked unread is_spent =
      let u = asked_at n s in
      ends_spent before after later s t n a step tile is_spent.2 false (went_unread before after u a unread) (unread_cause before after u a later unread) (unread_asked before after u a unread ∙ spent_wanted u t a false is_spent)

  pub spent_forced : IsSpent (asked_at n s) (block_of s.catalogue a) t → step.actor ≡ Idle → step.outcome ≡ Some outcome.Spent → Begins before after s a true step t
  spent_forced is_spent = ends_spent before after later s t n a step tile is_spent.2 true false (omega arith) (spent_wanted (asked_at n s) t a true is_spent)

-- A TICKET

module _ (before after : ℕ) (later : before ≤ after) (s t : State) (n : ℕ) (a : Address) (k : Ticketed) (step : Step) (tile : IsTile s.catalogue a) (is_given : IsTicketGiven (asked_at n s) (block_of s.catalogue a) k t) (actor : step.actor ≡ Holding k a) (no_outcome : step.outcome ≡ None) (fresh : IsFresh s.catalogue t.history (length s.history) a k.number) where
  ticket_is : ticket_for (asked_at n s) a k.number ≡ k
  ticket_is = rw (sym is_given.meta) refl

  wanted : (force : Bool) → render_wanted (asked_at n s) a force ≡ goes_on (with_entry (asked_at n s) (entry.Started k.number (block_of s.catalogue a))) (Holding (ticket_for (asked_at n s) a k.number) a)
  wanted force = ap (unless_busy (asked_at n s) a force) is_given.none_runs ∙ ap (given (asked_at n s) a) is_given.number

  step_is : (force : Bool) → shown step t ≡ render_wanted (asked_at n s) a force
  step_is force = shown_as step t (Holding k a) None actor no_outcome ∙ sym (wanted force ∙ rw ticket_is (rw is_given.state refl))

  fits : IsFit s.catalogue a step.actor
  fits = let P : Actor → Type 0 = IsAtWork s.catalogue a in record { tile = tile; work = subst P (sym actor) (refl, is_given.meta) }

  is_true : IsTrueActor s.catalogue step.actor
  is_true = let P : Actor → Type 0 = IsTrueActor s.catalogue in subst P (sym actor) tt

  answers : IsTrueOutcome s.catalogue a step.outcome
  answers = let P : Option TileOutcome → Type 0 = IsTrueOutcome s.catalogue a in subst P (sym no_outcome) tt

  holds_fresh : IsFreshActor s.catalogue t.history (length s.history) a step.actor
  holds_fresh = let P : Actor → Type 0 = IsFreshActor s.catalogue t.history (length s.history) a in subst P (sym actor) fresh

  nothing_stale : IsFreshOutcome s.catalogue t.history (length s.history) a step.outcome
  nothing_stale = let P : Option TileOutcome → Type 0 = IsFreshOutcome s.catalogue t.history (length s.history) a in subst P (sym no_outcome) tt

  goes_well : IsFailed step.actor → ⊥
  goes_well f = let P : Actor → Type 0 = IsFailed in subst P actor f

  module _ (force unread : Bool) (cause : RoseBy (disk_faults unread false) before after) (is_step : shown step t ≡ began s a force true n unread None) where
    pub begins_with : Begins before after s a force step t
    begins_with = record {
      left = true;
      moment = n;
      unread = unread;
      bytes = None;
      began = is_step;
      later = later;
      cause = cause;
      fits = fits;
      actor = is_true;
      not_failed = goes_well;
      sound = entry_sound s t n (entry.Started k.number (block_of s.catalogue a)) is_given.state;
      truth = λ sound. answers;
      held_fresh = holds_fresh;
      fresh = nothing_stale;
      grows = entry_grows s t n (entry.Started k.number (block_of s.catalogue a)) is_given.state;
      catalogue = entry_catalogue s t n (entry.Started k.number (block_of s.catalogue a)) is_given.state;
    }

  pub ticket_forced : Begins before after s a true step t
  ticket_forced = begins_with true false (omega arith) (step_is true)

  pub ticket_asked : IsUnread before after (asked_at n s) a → Begins before after s a false step t
  ticket_asked unread =
      let u = asked_at n s in
      begins_with false (went_unread before after u a unread) (unread_cause before after u a later unread) (step_is false ∙ sym (unread_asked before after u a unread))

-- A HIT

-- the blob that was read is the kept one where this is modelled, and that of its bytes in any case
blob_is : (s : State) (m : MetaKey) (blob : List ℕ) → length blob ≡ blob_size s.catalogue m → (told : Option (List ℕ)) → IfSome told (λ text. blob ≡ text)
    → blob ≡ option_map_or (λ text. text) told (blob_of s.catalogue m (byte_of blob))
blob_is s m blob long None is = sym (bytes_of_blob s.catalogue m blob long)
blob_is s m blob long (Some text) is = is

pub hit_asked : (before after : ℕ) → before ≤ after → (s t : State) (n : ℕ) (a : Address) (k : ℕ) (bytes : List ℕ) (step : Step) → IsTile s.catalogue a → IsHit (asked_at n s) a k bytes t → step.actor ≡ Idle
    → step.outcome ≡ Some (outcome.Tile (tile_at true k bytes)) → (IsSound s → bytes ≡ tile_text s.catalogue k a)
    → IsFresh s.catalogue t.history (length s.history) a k → Begins before after s a false step t
hit_asked before after later s t n a k bytes step tile is_hit idle ended true_bytes is_fresh =
    let P : Actor → Type 0 = IsAtWork s.catalogue a in
    let Q : Actor → Type 0 = IsTrueActor s.catalogue in
    let R : Actor → Type 0 = IsFailed in
    let Truly : Option TileOutcome → Type 0 = IsTrueOutcome s.catalogue a in
    let Held : Actor → Type 0 = IsFreshActor s.catalogue t.history (length s.history) a in
    let Answered : Option TileOutcome → Type 0 = IsFreshOutcome s.catalogue t.history (length s.history) a in
    let m = block_of s.catalogue a in
    let blob = Some (byte_of is_hit.blob) in
    let whole = blob_is (asked_at n s) m is_hit.blob is_hit.long (kept_text (asked_at n s) m) is_hit.told in
    let same : ends t (outcome.Tile (tile_at true k bytes)) ≡ hit (asked_at n s) a blob is_hit.kept = rw is_hit.state (rw is_hit.number (rw (is_hit.part ∙ ap (tile_part s.catalogue a) whole) refl)) in
    record {
      left = true;
      moment = n;
      unread = false;
      bytes = blob;
      began = shown_as step t Idle (Some (outcome.Tile (tile_at true k bytes))) idle ended ∙ same ∙ sym (ap (unless_kept (asked_at n s) a blob) is_hit.is_kept);
      later = later;
      cause = omega arith;
      fits = record { tile = tile; work = subst P (sym idle) tt };
      actor = subst Q (sym idle) tt;
      not_failed = λ f. subst R idle f;
      sound = entry_sound s t n (entry.Used m) is_hit.state;
      truth = λ sound. subst Truly (sym ended) (true_bytes sound);
      held_fresh = subst Held (sym idle) tt;
      fresh = subst Answered (sym ended) is_fresh;
      grows = entry_grows s t n (entry.Used m) is_hit.state;
      catalogue = entry_catalogue s t n (entry.Used m) is_hit.state;
    }
