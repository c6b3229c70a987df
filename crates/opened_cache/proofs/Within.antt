-- Counts of the faults of a disk over a longer time.
use Rattle.std.proofs.Common.{ℕ, ◌≤◌, ◌+◌, ◌^◌, ◌-◌, min, inl, inr, arith}
use Rattle.std.specs.Prelude.{◌⊎◌, None}
use Rattle.cabinet.specs.Counted.{unsaved_in}
use Rattle.cabinet.specs.State.{State}
use Rattle.base.specs.Causes.{Rose, RoseBy}
use Rattle.opened_cache.specs.Saving.{SavesAll}

by_within : (bound n before mid mid' after : ℕ) → before ≤ mid → mid' ≤ after → min (mid + n) bound ≤ mid' → min (before + n) bound ≤ after
by_within bound n before mid mid' after earlier later rose = omega (arith, earlier, later, rose)

pub rose_within : (n before mid mid' after : ℕ) → before ≤ mid → mid' ≤ after → RoseBy n mid mid' → RoseBy n before after
rose_within n before mid mid' after earlier later rose = by_within (2 ^ 64 - 1) n before mid mid' after earlier later rose

-- a count that never falls rose in the whole where it rose later
then_rose : (bound n before start mid after : ℕ) → before ≤ start → min (start + n) bound ≤ mid → min (mid + 1) bound ≤ after → min (before + 1) bound ≤ after
then_rose bound n before start mid after earlier rose then = omega (arith, earlier, rose, then)

pub saved_so : (s u : State) (before start mid after : ℕ) (n : ℕ) → before ≤ start → RoseBy n start mid → SavesAll (record { before = mid; after = after }) s u → SavesAll (record { before = before; after = after }) s u
saved_so s u before start mid after n earlier rose h = record { count = h.count; saves = h.saves; all = all h.all }
  where
    all : unsaved_in u None ⊎ Rose mid after → unsaved_in u None ⊎ Rose before after
    all (inl none) = inl none
    all (inr rises) = inr (then_rose (2 ^ 64 - 1) n before start mid after earlier rose rises)
