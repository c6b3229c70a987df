-- Each saving leaves one metatile fewer with uses that aren't saved; so one thread saves all.
use Rattle.std.proofs.Common.{ℕ, ◌≡◌, ◌≢◌, ◌≤◌, ◌<◌, ◌+◌, suc, Bool, true, false, not, cond, List, [], ◌∷◌, ◌++◌, length, map, filter, find, Some, None, inl, inr, arith, refl, sym, ap, subst, ◌∙◌}
use Rattle.std.specs.Prelude.{◌==◌}
use Rattle.std.proofs.lemmas.Bool.Decides.{nat_tests}
use Rattle.cabinet.specs.Commands.{Saves}
use Rattle.cabinet.specs.Counted.{unsaved_in, use_of, uses, uses_of}
use Rattle.cabinet.specs.declared.entry.HistoryEntry.TheVariants as entry
use Rattle.cabinet.specs.declared.kept.Kept.{Kept}
use Rattle.cabinet.specs.declared.replies.Saved.TheVariants as saved
use Rattle.cabinet.specs.History.{History, with_uses}
use Rattle.cabinet.specs.State.{State, blobs_counted, now}
use Rattle.cabinet.proofs.Rows.{now_more}
use Rattle.cabinet.proofs.UsesAfter.{counted_more}
use Rattle.cabinet.proofs.WithUses.{set_same}
use Rattle.cabinet_chest.specs.Acts.{seen}
use Rattle.cabinet_chest.specs.declared.shown.Shown.{Shown}
use Rattle.cache_access.specs.declared.upkept.Upkept.{Upkept}
use Rattle.cache_access.specs.declared.upkept.Upkept.TheVariants.{Done, DiskFault, Stopped}
use Rattle.cache_access.specs.KeepsUp.{KeepsUp, saving}
use Rattle.cache_access.proofs.Acting.{leads}
use Rattle.cache_access.proofs.LoneUpkeep.{SaysOfUses, lone_saving, steps_later}
use Rattle.expiry_policy.specs.declared.uses.Use.{Use}
use Rattle.expiry_policy.specs.Victims.{all_saved, is_of}
use Rattle.opened_cache.specs.Saving.{SavesAll, SavesMany}
use Rattle.metatile_plan.specs.declared.metatile.MetaKey.{MetaKey}
use Rattle.sessions.specs.Outside.{counts}
use Rattle.std.specs.Option.{option_map}

-- it has uses that aren't saved
abbrev is_unsaved : Use → Bool
is_unsaved u = not (u.uses == u.saved)

-- how many metatiles have such
abbrev unsaved_count : State → ℕ
unsaved_count s = length (filter is_unsaved (uses_of s))

-- the uses of a metatile are saved
abbrev saved_of : MetaKey → Use → Use
saved_of m u = cond (is_of m u) (all_saved u) u

-- THE USES after a saving

counted_uses : (h : History) (m : MetaKey) (ts : List Kept)
    → map (λ t. use_of (h ++ entry.Counted m (uses h m) ∷ []) t.meta) (map (with_uses m (uses h m)) ts) ≡ map (saved_of m) (map (λ t. use_of h t.meta) ts)
counted_uses h m [] = refl
counted_uses h m (t ∷ ts) = λ i. one i ∷ counted_uses h m ts i
  where
    then : History
    then = h ++ entry.Counted m (uses h m) ∷ []

    one : use_of then (with_uses m (uses h m) t).meta ≡ saved_of m (use_of h t.meta)
    one = ap (use_of then) (set_same m (uses h m) (λ (x : Kept). x.meta) (λ x. refl) t) ∙ counted_more h m t.meta (uses h m) refl

-- THEIR COUNT

module _ (m : MetaKey) where
  none_new : (us : List Use) → length (filter is_unsaved (map (saved_of m) us)) ≤ length (filter is_unsaved us)
  none_new [] = omega arith
  none_new (u ∷ us) = chosen (is_of m u) (is_unsaved u) refl (u.uses == u.uses) refl (none_new us)
    where
      chosen : (its unsaved : Bool) → is_unsaved u ≡ unsaved → (same : Bool) → (u.uses == u.uses) ≡ same
          → length (filter is_unsaved (map (saved_of m) us)) ≤ length (filter is_unsaved us)
          → length (filter is_unsaved (cond its (all_saved u) u ∷ map (saved_of m) us)) ≤ length (filter is_unsaved (u ∷ us))
      chosen true true is true same h = rw (is, same) (omega (arith, h))
      chosen true false is true same h = rw (is, same) (omega (arith, h))
      chosen true unsaved is false same h = absurd (grind (arith, nat_tests))
      chosen false true is same e h = rw is (omega (arith, h))
      chosen false false is same e h = rw is (omega (arith, h))

  one_less : (us : List Use) (v : Use) → find (is_of m) us ≡ Some v → is_unsaved v ≡ true → length (filter is_unsaved (map (saved_of m) us)) + 1 ≤ length (filter is_unsaved us)
  one_less [] v found is = absurd (cc)
  one_less (u ∷ us) v found is = chosen (is_of m u) (is_unsaved u) refl (u.uses == u.uses) refl (none_new us) (one_less us v) found
    where
      chosen : (its unsaved : Bool) → is_unsaved u ≡ unsaved → (same : Bool) → (u.uses == u.uses) ≡ same
          → length (filter is_unsaved (map (saved_of m) us)) ≤ length (filter is_unsaved us)
          → (find (is_of m) us ≡ Some v → is_unsaved v ≡ true → length (filter is_unsaved (map (saved_of m) us)) + 1 ≤ length (filter is_unsaved us))
          → cond its (Some u) (find (is_of m) us) ≡ Some v
          → length (filter is_unsaved (cond its (all_saved u) u ∷ map (saved_of m) us)) + 1 ≤ length (filter is_unsaved (u ∷ us))
      chosen true true told true same all later there = rw (told, same) (omega (arith, all))
      chosen true false told true same all later there = let e : u ≡ v = cc in absurd (cc (subst (λ x. is_unsaved x ≡ false) e told, is))
      chosen true unsaved told false same all later there = absurd (grind (arith, nat_tests))
      chosen false true told same e all later there = let l = later there is in rw told (omega (arith, l))
      chosen false false told same e all later there = let l = later there is in rw told (omega (arith, l))

-- A SAVING

unsaved_so : (u : Use) → u.uses ≢ u.saved → is_unsaved u ≡ true
unsaved_so u apart = grind (arith, nat_tests)

saves_fewer : (s u : State) (m : MetaKey) → Saves s (saved.Done m) u → unsaved_count u + 1 ≤ unsaved_count s
saves_fewer s u m row =
    let v = row.0.0 in
    let least = row.0.1 in
    let n = uses s.history m in
    let kept = now_more s (entry.Counted m n) (option_map (blobs_counted m n) s.blobs) in
    rw (row.1, kept, counted_uses s.history m (now s).kept)
    (one_less m (uses_of s) v least.held (unsaved_so v least.unsaved))

-- one saving more
saves_more : (n : ℕ) (s t u : State) (m : MetaKey) → SavesMany n s t → Saves t (saved.Done m) u → SavesMany (n + 1) s u
saves_more n s t u m saves row = subst (λ k. SavesMany k s u) one (t, saves, (m, row))
  where
    one : suc n ≡ n + 1
    one = omega arith

-- ALL OF THEM, by one thread

no_more_than : (f : Kept → Use) (ts : List Kept) → length (filter is_unsaved (map f ts)) ≤ length ts
no_more_than f [] = omega arith
no_more_than f (t ∷ ts) = chosen (is_unsaved (f t)) (no_more_than f ts)
  where
    chosen : (b : Bool) → length (filter is_unsaved (map f ts)) ≤ length ts → length (cond b (f t ∷ filter is_unsaved (map f ts)) (filter is_unsaved (map f ts))) ≤ suc (length ts)
    chosen true h = omega (arith, h)
    chosen false h = omega (arith, h)

-- the uses of so many were saved, and those of so many fewer are left
record HasSaved (first : State) (n : ℕ) (s : State) : Type 0 where
  saves : SavesMany n first s
  few : n + unsaved_count s ≤ unsaved_count first

saved_more : (first : State) (n : ℕ) (s t : State) (m : MetaKey) → HasSaved first n s → Saves s (saved.Done m) t → HasSaved first (n + 1) t
saved_more first n s t m had row =
    let few = had.few in
    let fewer = saves_fewer s t m row in
    record { saves = saves_more n first s t m had.saves row; few = omega (arith, few, fewer) }

all_saved_by : (x y : Shown) (most many : ℕ) (s : State) → length (now x.state).kept < most → HasSaved x.state many s → (r : Upkept) → SaysOfUses most many x s y r
    → SavesAll (counts x.faults y.faults) x.state y.state
all_saved_by x y most many s above had (Done n) (same, (none, left)) = record {
  count = many;
  saves = subst (λ (u : State). SavesMany many x.state u) (sym left) had.saves;
  all = inl (subst (λ (u : State). unsaved_in u None) (sym left) none);
}
all_saved_by x y most many s above had (DiskFault n) (same, left, rose) =
    record { count = many; saves = subst (λ (u : State). SavesMany many x.state u) (sym left) had.saves; all = inr rose }
all_saved_by x y most many s above had Stopped (is, left) =
    let few = had.few in
    let no_more = no_more_than (λ t. use_of x.state.history t.meta) (now x.state).kept in
    absurd (omega (arith, above, few, no_more, is))

pub saves_all : {K : Type 0} (state : K → State) (faults : K → ℕ) (outlasts : K → K → Type 0) (k l : K) (most : ℕ) (r : Upkept) → length (now (state k)).kept < most
    → KeepsUp (leads state faults outlasts) saving most k l r → SavesAll (counts (faults k) (faults l)) (state k) (state l)
saves_all state faults outlasts k l most r above h =
    let x = seen (faults k) (state k) in
    let y = seen (faults l) (state l) in
    let lone = lone_saving (leads state faults outlasts) k l (state k).catalogue x y (HasSaved (state k)) (record { saves = refl; few = omega arith }) most r (saved_more (state k)) h h.gains in
    all_saved_by x y most lone.0 lone.1 above lone.2 r lone.3

pub later_by : {K : Type 0} (state : K → State) (faults : K → ℕ) (outlasts : K → K → Type 0) (k l : K) (most : ℕ) (r : Upkept) → KeepsUp (leads state faults outlasts) saving most k l r → faults k ≤ faults l
later_by state faults outlasts k l most r h = steps_later (state k).catalogue (h.turns ++ h.ends) (seen (faults k) (state k)) (seen (faults l) (state l)) h.gains
