-- Metatiles that are dropped one after the other, and what is told of them.
use Rattle.std.specs.Prelude.{IfSome, IsSome}
use Rattle.std.proofs.Common.{ℕ, ◌≡◌, ◌≤◌, ◌<◌, ◌+◌, ◌^◌, ◌-◌, suc, Bool, true, false, not, cond, List, [], ◌∷◌, length, filter, find, Option, Some, None, arith, inr, refl, sym, subst}
use Rattle.cabinet.specs.Commands.{Expires}
use Rattle.cabinet.specs.Counted.{scope_exceeded}
use Rattle.cabinet.specs.declared.entry.HistoryEntry.TheVariants as entry
use Rattle.cabinet.specs.declared.kept.Kept.{Kept}
use Rattle.cabinet.specs.declared.replies.Expired.TheVariants as expired
use Rattle.cabinet.specs.History.{is_of}
use Rattle.cabinet.specs.State.{State, now}
use Rattle.cabinet.proofs.Rows.{goes_kept, now_more}
use Rattle.cabinet_chest.specs.Acts.{seen}
use Rattle.cabinet_chest.specs.declared.shown.Shown.{Shown}
use Rattle.cache_access.specs.declared.upkept.Upkept.{Upkept}
use Rattle.cache_access.specs.declared.upkept.Upkept.TheVariants as upkept
use Rattle.cache_access.specs.KeepsUp.{KeepsUp, dropping}
use Rattle.cache_access.proofs.Acting.{leads}
use Rattle.cache_access.proofs.LoneUpkeep.{SaysOfQuotas, lone_dropping}
use Rattle.catalog.specs.declared.catalogue.Catalogue.{Catalogue}
use Rattle.base.specs.Causes.{Rose}
use Rattle.base.specs.Readings.{Readings}
use Rattle.http_wire.proofs.TakesOn.{rose_before}
use Rattle.command_status.specs.declared.status.Status.{Status}
use Rattle.command_status.specs.declared.status.Status.TheVariants as status
use Rattle.opened_cache.specs.Change.{DiskChange}
use Rattle.sessions.specs.Outside.{OutputChange}
use Rattle.opened_cache.specs.Opened.{HasOpened}
use Rattle.disk_words.specs.Ends.{Drops, DropsAll, TellsDropped}
use Rattle.metatile_plan.specs.declared.metatile.MetaKey.{MetaKey}

-- EACH DROP leaves one metatile fewer

at_most : (q : Kept → Bool) (ts : List Kept) → length (filter q ts) ≤ length ts
at_most q [] = omega arith
at_most q (t ∷ ts) = chosen (q t) (at_most q ts)
  where
    chosen : (b : Bool) → length (filter q ts) ≤ length ts → length (cond b (t ∷ filter q ts) (filter q ts)) ≤ suc (length ts)
    chosen true h = omega (arith, h)
    chosen false h = omega (arith, h)

one_less : (p : Kept → Bool) (ts : List Kept) → IsSome (find p ts) → length (filter (λ t. not (p t)) ts) + 1 ≤ length ts
one_less p [] h = absurd (cc)
one_less p (t ∷ ts) h = chosen (p t) (at_most (λ x. not (p x)) ts) (one_less p ts) h
  where
    chosen : (b : Bool) → length (filter (λ x. not (p x)) ts) ≤ length ts → (IsSome (find p ts) → length (filter (λ x. not (p x)) ts) + 1 ≤ length ts)
        → IsSome (cond b (Some t) (find p ts)) → length (cond (not b) (t ∷ filter (λ x. not (p x)) ts) (filter (λ x. not (p x)) ts)) + 1 ≤ suc (length ts)
    chosen true all later there = omega (arith, all)
    chosen false all later there = let l = later there in omega arith

fewer : (s u : State) (m : MetaKey) → Expires s (expired.Dropped m) u → length (now u).kept + 1 ≤ length (now s).kept
fewer s u m row = rw (row.3, now_more s (entry.Dropped m)) (one_less (is_of m) (now s).kept (goes_kept s row.0 m row.2))

-- one drop more
drops_more : (n : ℕ) (s t u : State) (m : MetaKey) → Drops n s t → Expires t (expired.Dropped m) u → Drops (n + 1) s u
drops_more n s t u m drops row = subst (λ k. Drops k s u) one (t, drops, (m, row))
  where
    one : suc n ≡ n + 1
    one = omega arith

-- so many were dropped, and so many fewer are kept
record AreDropped (first : State) (n : ℕ) (s : State) : Type 0 where
  drops : Drops n first s
  few : n + length (now s).kept ≤ length (now first).kept

dropped_more : (first : State) (n : ℕ) (s t : State) (m : MetaKey) → AreDropped first n s → Expires s (expired.Dropped m) t → AreDropped first (n + 1) t
dropped_more first n s t m had row =
    let few = had.few in
    let less = fewer s t m row in
    record { drops = drops_more n first s t m had.drops row; few = omega (arith, few, less) }

-- ALL OF THEM, by one thread: as many as are kept at most

abbrev pub Comes : Shown → Shown → Upkept → Type 0
Comes x y (upkept.Done n) = (n ≤ length (now x.state).kept) × Drops n x.state y.state × Expires y.state expired.Within y.state
Comes x y (upkept.DiskFault n) = Rose x.faults y.faults × Drops n x.state y.state
Comes x y upkept.Stopped = ⊥

comes_so : (x y : Shown) (most many : ℕ) (s : State) → length (now x.state).kept < most → AreDropped x.state many s → (r : Upkept) → SaysOfQuotas most many x s y r → Comes x y r
comes_so x y most many s above had (upkept.Done n) (same, (none, left)) =
    let few = had.few in
    let drops = subst (λ (k : ℕ). Drops k x.state s) (sym same) had.drops in
    (omega (arith, few, same), subst (λ (u : State). Drops n x.state u) (sym left) drops, (subst (λ (u : State). scope_exceeded u ≡ None) (sym left) none, refl))
comes_so x y most many s above had (upkept.DiskFault n) (same, left, rose) =
    let drops = subst (λ (k : ℕ). Drops k x.state s) (sym same) had.drops in
    (rose, subst (λ (u : State). Drops n x.state u) (sym left) drops)
comes_so x y most many s above had upkept.Stopped (is, left) = let few = had.few in omega (arith, above, few, is)

pub dropped_all : {K : Type 0} (state : K → State) (faults : K → ℕ) (outlasts : K → K → Type 0) (k l : K) (kept most : ℕ) (r : Upkept) → kept ≡ length (now (state k)).kept → most ≡ kept
    → KeepsUp (leads state faults outlasts) dropping (most + 1) k l r → Comes (seen (faults k) (state k)) (seen (faults l) (state l)) r
dropped_all state faults outlasts k l kept most r are is h =
    let x = seen (faults k) (state k) in
    let y = seen (faults l) (state l) in
    let lone = lone_dropping (leads state faults outlasts) k l (state k).catalogue x y (AreDropped (state k)) (record { drops = refl; few = omega arith }) (most + 1) r (dropped_more (state k)) h h.gains in
    comes_so x y (most + 1) lone.0 lone.1 (omega (arith, are, is)) lone.2 r lone.3

-- WHAT IS TOLD

pub drop_tells : (c : Catalogue) (clock : Readings) (d : DiskChange) (o : OutputChange) (Stays : Type 0) (s u : State) (mid : ℕ)
    → HasOpened c clock d s u → d.faults.before ≤ mid → (r : Option ℕ) → IfSome r (λ n. Drops n s u × Expires u expired.Within u) → (r ≡ None → Rose mid d.faults.after) → (r ≡ None → (n : ℕ) × Drops n s u)
    → (e : Status) → TellsDropped o Stays r e → DropsAll c clock d o Stays e
drop_tells c clock d o Stays s u mid h le (Some n) all failed dropped status.Done tells = (n, (s, u, h, all.0, all.1), tells)
drop_tells c clock d o Stays s u mid h le (Some n) all failed dropped status.WriteFault tells = (n, (s, u, h, all.0, all.1), tells)
drop_tells c clock d o Stays s u mid h le (Some n) all failed dropped status.ReadFault tells = absurd tells
drop_tells c clock d o Stays s u mid h le (Some n) all failed dropped status.TooLong tells = absurd tells
drop_tells c clock d o Stays s u mid h le (Some n) all failed dropped (status.Form cause) tells = absurd tells
drop_tells c clock d o Stays s u mid h le (Some n) all failed dropped (status.Cache cause) tells = absurd tells
drop_tells c clock d o Stays s u mid h le (Some n) all failed dropped status.DiskFault tells = absurd tells
drop_tells c clock d o Stays s u mid h le (Some n) all failed dropped status.CutsFull tells = absurd tells
drop_tells c clock d o Stays s u mid h le (Some n) all failed dropped (status.Line n') tells = absurd tells
drop_tells c clock d o Stays s u mid h le (Some n) all failed dropped (status.Stream session) tells = absurd tells
drop_tells c clock d o Stays s u mid h le (Some n) all failed dropped status.OutOfMemory tells = absurd tells
drop_tells c clock d o Stays s u mid h le (Some n) all failed dropped status.Usage tells = absurd tells
drop_tells c clock d o Stays s u mid h le (Some n) all failed dropped (status.Catalogue fault) tells = absurd tells
drop_tells c clock d o Stays s u mid h le (Some n) all failed dropped status.ListenFault tells = absurd tells
drop_tells c clock d o Stays s u mid h le (Some n) all failed dropped status.ThreadFault tells = absurd tells
drop_tells c clock d o Stays s u mid h le None all failed dropped e tells = rw tells.0 (rose_before (2 ^ 64 - 1) d.faults.before mid d.faults.after le (failed refl), tells.1, inr (let d = dropped refl in (d.0, s, u, h, d.1)))
