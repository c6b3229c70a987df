-- The last event of a request: its ticket is handed in or given back.
use Rattle.std.proofs.Common.{◌≡◌, ◌≤◌, ◌<◌, ℕ, Bool, true, false, List, [], ◌∷◌, length, get_or, Option, Some, None, inl, inr, refl, sym, ◌∙◌, ap, subst, append-nil, arith}
use Rattle.std.specs.Prelude.{IsSome, nat_le}
use Rattle.std.proofs.lemmas.Bool.Decides.{nat_tests}
use Rattle.std.proofs.lemmas.List.{ext_get_or}
use Rattle.std.proofs.lemmas.List.FromFn.{get_or-map-range_with_len, length-map-range_with_len}
use Rattle.cabinet.specs.Commands.{Abandons, Finishes, IsCountedFinished, kept_at, others, place_for}
use Rattle.cabinet.specs.declared.entry.HistoryEntry.TheVariants as entry
use Rattle.cabinet.specs.declared.replies.Finished.{Finished}
use Rattle.cabinet.specs.declared.replies.Finished.TheVariants as finished
use Rattle.cabinet.specs.Fresh.{IsFresh}
use Rattle.cabinet.specs.History.{History, stored_entry}
use Rattle.cabinet.specs.State.{State, IsSound, with_entry}
use Rattle.cabinet.proofs.Fresher.{still_fresh}
use Rattle.base.specs.Causes.{Rose, RoseBy}
use Rattle.catalog.specs.declared.catalogue.Catalogue.{Catalogue}
use Rattle.matrix_geometry.specs.declared.address.Address.{Address}
use Rattle.metatile_locks.specs.Tickets.{Ticketed}
use Rattle.metatile_plan.specs.declared.metatile.MetaKey.{MetaKey}
use Rattle.raster_field.specs.Blocks.{blob_size, block_text, tile_part}
use Rattle.cache_core.specs.declared.actor.Actor.{Actor}
use Rattle.cache_core.specs.declared.actor.Actor.TheVariants.{Failed, Idle, Holding, Rendered}
use Rattle.cache_core.specs.declared.actor.Step.{Step}
use Rattle.cache_core.specs.declared.outcome.TileOutcome.{TileOutcome}
use Rattle.cache_core.specs.Advanced.{Advances}
use Rattle.cache_core.specs.Fits.{IsFit, IsAtWork, IsTrueActor, IsTrueOutcome, IsFreshActor, IsFreshOutcome, ExtendsHistory, place_of}
use Rattle.cache_core.specs.Shown.{IsFailed}
use Rattle.cache_core.specs.Steps.{advanced, blob_of, disk_faults, ended, ends, holds, stored, tile_at, with_room}
use Rattle.cache_core.specs.Steps as steps

-- HISTORIES GO ON

same_history : (s t : State) → t ≡ s → ExtendsHistory s.history t.history
same_history s t e = ([], ap (λ u. u.history) e ∙ sym (append-nil s.history))

pub abandons_grow : (s t : State) (k : Ticketed) → Abandons s k t → ExtendsHistory s.history t.history
abandons_grow s t k (inl h) = same_history s t h.1
abandons_grow s t k (inr h) = (entry.Ended k.number ∷ [], ap (λ u. u.history) h.1)

pub finishes_grow : (s t : State) (k : Ticketed) (blob : List ℕ) (r : Finished) → Finishes s k blob r t → ExtendsHistory s.history t.history
finishes_grow s t k blob finished.Stranger h = same_history s t h.1
finishes_grow s t k blob (finished.Overtaken cut) h = (entry.Ended k.number ∷ [], ap (λ u. u.history) h.2)
finishes_grow s t k blob finished.Full h = (entry.Ended k.number ∷ [], ap (λ u. u.history) h.3)
finishes_grow s t k blob finished.NoRoom h = (entry.Ended k.number ∷ [], ap (λ u. u.history) h.4)
finishes_grow s t k blob (finished.DiskFault b a) h = (entry.Ended k.number ∷ [], ap (λ u. u.history) h.5)
finishes_grow s t k blob finished.Kept h = (stored_entry (kept_at k h.0 h.3.0 (length blob)) ∷ [], ap (λ u. u.history) h.3.2)

pub extends_fresh : (c : Catalogue) (h g : History) (p : ℕ) (a : Address) (k : ℕ) → ExtendsHistory h g → p ≤ length h → IsFresh c h p a k → IsFresh c g p a k
extends_fresh c h g p a k more within fresh = let P : History → Type 0 = λ x. IsFresh c x p a k in subst P (sym more.1) (still_fresh c h more.0 p a k within fresh)

-- THE CATALOGUE STAYS

pub abandons_catalogue : (s t : State) (k : Ticketed) → Abandons s k t → t.catalogue ≡ s.catalogue
abandons_catalogue s t k (inl h) = ap (λ u. u.catalogue) h.1
abandons_catalogue s t k (inr h) = ap (λ u. u.catalogue) h.1

pub finishes_catalogue : (s t : State) (k : Ticketed) (blob : List ℕ) (r : Finished) → Finishes s k blob r t → t.catalogue ≡ s.catalogue
finishes_catalogue s t k blob finished.Stranger h = ap (λ u. u.catalogue) h.1
finishes_catalogue s t k blob (finished.Overtaken cut) h = ap (λ u. u.catalogue) h.2
finishes_catalogue s t k blob finished.Full h = ap (λ u. u.catalogue) h.3
finishes_catalogue s t k blob finished.NoRoom h = ap (λ u. u.catalogue) h.4
finishes_catalogue s t k blob (finished.DiskFault b a) h = ap (λ u. u.catalogue) h.5
finishes_catalogue s t k blob finished.Kept h = ap (λ u. u.catalogue) h.3.2

-- A FINISH IS THAT OF ITS ROW

-- whether the blob went unwritten
abbrev pub went_unwritten : Finished → Bool
went_unwritten finished.Stranger = false
went_unwritten (finished.Overtaken cut) = false
went_unwritten finished.Full = false
went_unwritten finished.NoRoom = false
went_unwritten (finished.DiskFault b a) = true
went_unwritten finished.Kept = false

unwritten_stored : (s : State) (k : Ticketed) (n : ℕ) (blob : List ℕ) (place : Option ℕ) → IsSome place → stored s k n blob place true ≡ with_entry s (entry.Ended k.number)
unwritten_stored s k n blob None is = let f : false ≡ true = is in cc
unwritten_stored s k n blob (Some place) is = refl

with_others : (s : State) (k : Ticketed) (n : ℕ) (blob : List ℕ) (unwritten : Bool) → others s k.meta < s.catalogue.kept_limit
    → with_room s k n blob unwritten (nat_le s.catalogue.kept_limit (others s k.meta)) ≡ stored s k n blob (place_for s (length blob)) unwritten
with_others s k n blob unwritten few = let e : nat_le s.catalogue.kept_limit (others s k.meta) ≡ false = grind (arith, nat_tests) in ap (with_room s k n blob unwritten) e

pub finishes_is : (s t : State) (k : Ticketed) (blob : List ℕ) (r : Finished) → Finishes s k blob r t → t ≡ steps.finished s k blob (went_unwritten r)
finishes_is s t k blob finished.Stranger h = h.1 ∙ sym (ap (ended s k blob false) h.0)
finishes_is s t k blob (finished.Overtaken cut) h = h.2 ∙ sym (ap (ended s k blob false) h.1)
finishes_is s t k blob finished.Full h =
    let e : nat_le s.catalogue.kept_limit (others s k.meta) ≡ true = let l = h.2 in grind (arith, nat_tests) in
    h.3 ∙ sym (ap (ended s k blob false) h.1 ∙ ap (with_room s k h.0 blob false) e)
finishes_is s t k blob finished.NoRoom h = h.4 ∙ sym (ap (ended s k blob false) h.1 ∙ with_others s k h.0 blob false h.2 ∙ ap (λ (p : Option ℕ). stored s k h.0 blob p false) h.3)
finishes_is s t k blob (finished.DiskFault b a) h = h.5 ∙ sym (ap (ended s k blob true) h.1 ∙ with_others s k h.0 blob true h.2 ∙ unwritten_stored s k h.0 blob (place_for s (length blob)) h.3)
finishes_is s t k blob finished.Kept h = h.3.2 ∙ sym (ap (ended s k blob false) h.1 ∙ with_others s k h.0 blob false h.2 ∙ ap (λ (p : Option ℕ). stored s k h.0 blob p false) h.3.1)

pub finish_cause : (before after : ℕ) (s t : State) (k : Ticketed) (blob : List ℕ) (r : Finished) → before ≤ after → Finishes s k blob r t → IsCountedFinished before after r
    → RoseBy (disk_faults false (went_unwritten r)) before after
finish_cause before after s t k blob finished.Stranger later h counted = omega arith
finish_cause before after s t k blob (finished.Overtaken cut) later h counted = omega arith
finish_cause before after s t k blob finished.Full later h counted = omega arith
finish_cause before after s t k blob finished.NoRoom later h counted = omega arith
finish_cause before after s t k blob (finished.DiskFault b a) later h counted = rw (sym counted.0, sym counted.1) h.4
finish_cause before after s t k blob finished.Kept later h counted = omega arith

-- THE LAST EVENT, in which no clock is read

pub ending : (told : Option ℕ) (before after disk_before disk_after : ℕ) → before ≤ after → disk_before ≤ disk_after → (s t : State) (actor : Actor) (step : Step) (o : TileOutcome) (left unwritten : Bool)
    → RoseBy (disk_faults false unwritten) disk_before disk_after → step.actor ≡ Idle → step.outcome ≡ Some o → ends t o ≡ advanced s actor left 0 false None unwritten → ExtendsHistory s.history t.history → t.catalogue ≡ s.catalogue
    → (told ≡ Some s.catalogue.source → IsSound s → IsTrueActor s.catalogue actor → IsSound t)
    → ((a : Address) → IsFit s.catalogue a actor → IsTrueActor s.catalogue actor → IsTrueOutcome s.catalogue a (Some o))
    → ((a : Address) (p : ℕ) → IsFit s.catalogue a actor → p ≤ length s.history → IsFreshActor s.catalogue s.history p a actor → IsFreshOutcome s.catalogue t.history (place_of actor (length s.history) p) a (Some o))
    → Advances told before after disk_before disk_after s actor step t
ending told before after disk_before disk_after later disk_later s t actor step o left unwritten disk_cause idle ended is_step grows catalogue sound truth fresh =
    let c = s.catalogue in
    let Truly : Option TileOutcome → Address → Type 0 = λ x a. IsTrueOutcome c a x in
    let Fresh : Option TileOutcome → ℕ → Address → Type 0 = λ x p a. IsFreshOutcome c t.history p a x in
    let Works : Actor → Address → Type 0 = λ x a. IsAtWork c a x in
    let Held : Actor → Type 0 = λ x. IsTrueActor c x in
    let Young : Actor → ℕ → Address → Type 0 = λ x p a. IsFreshActor c t.history p a x in
    let Failing : Actor → Type 0 = IsFailed in
    record {
      left = left;
      moment = 0;
      unread = false;
      bytes = None;
      unwritten = unwritten;
      advanced = rw idle (rw ended is_step);
      fits = λ a fit. record { tile = fit.tile; work = subst (λ x. Works x a) (sym idle) tt };
      later = later;
      cause = λ f. absurd (subst Failing idle f);
      disk_later = disk_later;
      disk_cause = disk_cause;
      sound = sound;
      held = λ h k l. subst Held (sym idle) tt;
      truth = λ a fit h k l. subst (λ x. Truly x a) (sym ended) (truth a fit l);
      held_fresh = λ a p fit within young. subst (λ x. Young x (place_of actor (length s.history) p) a) (sym idle) tt;
      fresh = λ a p fit within young. subst (λ x. Fresh x (place_of actor (length s.history) p) a) (sym ended) (fresh a p fit within young);
      grows = grows;
      catalogue = catalogue;
    }

-- THE RENDER

-- the byte at a place
abbrev pub byte_of : List ℕ → ℕ → ℕ
byte_of blob i = get_or blob i 0

-- a blob of the metatile's length is that of its bytes
pub bytes_of_blob : (c : Catalogue) (m : MetaKey) (blob : List ℕ) → length blob ≡ blob_size c m → blob_of c m (byte_of blob) ≡ blob
bytes_of_blob c m blob size =
    let many : length (blob_of c m (byte_of blob)) ≡ blob_size c m = length-map-range_with_len (byte_of blob) 0 (blob_size c m) in
    ext_get_or 0 (blob_of c m (byte_of blob)) blob (many ∙ sym size) (λ i l. get_or-map-range_with_len (byte_of blob) 0 (blob_size c m) i i 0 (omega arith) (omega arith))

-- a blob was rendered, and its tile copied
pub painted_on : (told : Option ℕ) (before after faults : ℕ) → before ≤ after → (s : State) (k : Ticketed) (a : Address) (blob bytes : List ℕ) (step : Step)
    → IsFit s.catalogue a (Holding k a) → length blob ≡ blob_size s.catalogue k.meta → bytes ≡ tile_part s.catalogue a blob
    → (told ≡ Some s.catalogue.source → blob ≡ block_text s.catalogue k.number k.meta)
    → step.actor ≡ Rendered k blob (tile_at false k.number bytes) → step.outcome ≡ None → Advances told before after faults faults s (Holding k a) step s
painted_on told before after faults later s k a blob bytes step fit size part text actor going =
    let c = s.catalogue in
    let tile = tile_at false k.number bytes in
    let now_at : Actor = Rendered k blob tile in
    let Works : Actor → Address → Type 0 = λ x b. IsAtWork c b x in
    let Held : Actor → Type 0 = λ x. IsTrueActor c x in
    let Young : Actor → ℕ → Address → Type 0 = λ x p b. IsFreshActor c s.history p b x in
    let Truly : Option TileOutcome → Address → Type 0 = λ x b. IsTrueOutcome c b x in
    let Fresh : Option TileOutcome → ℕ → Address → Type 0 = λ x p b. IsFreshOutcome c s.history p b x in
    let Failing : Actor → Type 0 = IsFailed in
    record {
      left = true;
      moment = 0;
      unread = false;
      bytes = Some (byte_of blob);
      unwritten = false;
      advanced = rw actor (rw going (rw part (ap (holds s k a) (sym (bytes_of_blob c k.meta blob size)))));
      fits = λ b fit_b. record { tile = fit_b.tile; work = subst (λ x. Works x b) (sym actor) (record { ticket = fit_b.work.1; size = size; miss = refl; number = refl; part = part ∙ ap (λ x. tile_part c x blob) fit_b.work.0 }) };
      later = later;
      cause = λ f. absurd (subst Failing actor f);
      disk_later = omega arith;
      disk_cause = omega arith;
      sound = λ h sound l. sound;
      held = λ h sound l. subst Held (sym actor) (text h);
      truth = λ b fit_b h sound l. subst (λ x. Truly x b) (sym going) tt;
      held_fresh = λ b p fit_b within young. subst (λ x. Young x p b) (sym actor) young;
      fresh = λ b p fit_b within young. subst (λ x. Fresh x p b) (sym going) tt;
      grows = ([], sym (append-nil s.history));
      catalogue = refl;
    }

-- the source failed
pub failed_on : (told : Option ℕ) (before after faults : ℕ) → before ≤ after → Rose before after → (s : State) (k : Ticketed) (a : Address) (step : Step)
    → step.actor ≡ Failed k → step.outcome ≡ None → Advances told before after faults faults s (Holding k a) step s
failed_on told before after faults later rose s k a step actor going =
    let c = s.catalogue in
    let Works : Actor → Address → Type 0 = λ x b. IsAtWork c b x in
    let Held : Actor → Type 0 = λ x. IsTrueActor c x in
    let Young : Actor → ℕ → Address → Type 0 = λ x p b. IsFreshActor c s.history p b x in
    let Truly : Option TileOutcome → Address → Type 0 = λ x b. IsTrueOutcome c b x in
    let Fresh : Option TileOutcome → ℕ → Address → Type 0 = λ x p b. IsFreshOutcome c s.history p b x in
    record {
      left = true;
      moment = 0;
      unread = false;
      bytes = None;
      unwritten = false;
      advanced = rw actor (rw going refl);
      fits = λ b fit. record { tile = fit.tile; work = subst (λ x. Works x b) (sym actor) fit.work.1 };
      later = later;
      cause = λ f. rose;
      disk_later = omega arith;
      disk_cause = omega arith;
      sound = λ h sound l. sound;
      held = λ h sound l. subst Held (sym actor) tt;
      truth = λ b fit h sound l. subst (λ x. Truly x b) (sym going) tt;
      held_fresh = λ b p fit within young. subst (λ x. Young x p b) (sym actor) tt;
      fresh = λ b p fit within young. subst (λ x. Fresh x p b) (sym going) tt;
      grows = ([], sym (append-nil s.history));
      catalogue = refl;
    }
