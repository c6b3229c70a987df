-- what room there is after some cuts are taken out
use Rattle.std.proofs.Common.{ℕ, ◌≡◌, ◌-◌, ◌<◌, ◌≤◌, ◌^◌, arith, Bool, true, false, cond, List, length, subst, sym}
use Rattle.std.specs.Prelude.{nat_le}
use Rattle.slab.specs.Slab.{Slab, slab_len}
use Rattle.truncation_list.specs.declared.book.Cut.{Cut}
use Rattle.truncation_list.specs.declared.cover.Cover.{Cover}
use Rattle.truncation_list.specs.declared.index.Shelf.{Shelf}
use Rattle.truncation_list.specs.Index.{capacity, listed}
use Rattle.truncation_list.specs.Listed.{HasRoomFor}
use Rattle.truncation_list.specs.Slots.{free_slots}
use Rattle.truncation_list.proofs.Indexing.{room_stays}

more_free : (v : Bool) (most count fewer : ℕ) → fewer ≤ count → 0 < cond v (most - count) 0 → 0 < cond v (most - fewer) 0
more_free true most count fewer l h = omega arith
more_free false most count fewer l h = h

pub slots_left : (old new : Slab Cut) → new.capacity ≡ old.capacity → slab_len new ≤ slab_len old → 0 < free_slots old → 0 < free_slots new
slots_left old new same fewer h =
    subst (λ (most : ℕ). 0 < cond (nat_le most (2 ^ 32)) (most - slab_len new) 0) (sym same)
    (more_free (nat_le old.capacity (2 ^ 32)) old.capacity (slab_len old) (slab_len new) fewer h)

pub room_after : (old new : Slab Cut) (before after : ℕ) (shelves shelves' : List Shelf) (cover : Cover) → new.capacity ≡ old.capacity → slab_len new ≤ slab_len old → before ≤ after → ((l g k : ℕ) → length (listed shelves' l g k) ≤ length (listed shelves l g k)) → ((l g k : ℕ) → capacity shelves' l g k ≡ capacity shelves l g k) → HasRoomFor (record { slots = free_slots old; by_number = before; shelves = shelves }) cover → HasRoomFor (record { slots = free_slots new; by_number = after; shelves = shelves' }) cover
room_after old new before after shelves shelves' cover same fewer more shorter space h = (
  slots_left old new same fewer h.0,
  (let some = h.1 in omega arith),
  room_stays shelves shelves' cover shorter space h.2,
)
