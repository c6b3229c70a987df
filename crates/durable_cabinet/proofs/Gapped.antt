-- A gap that a blob is put into is free of all that is kept.
use Rattle.std.proofs.Common.{ℕ, ◌≡◌, ◌+◌, ◌<◌, ◌≤◌, Bool, true, false, cond, List, [], ◌∷◌, Some, refl, inl, inr, arith}
use Rattle.std.specs.Prelude.{nat_lt}
use Rattle.std.proofs.lemmas.Bool.Decides.{nat_tests}
use Rattle.extent_map.specs.declared.part.Extent.{Extent}
use Rattle.extent_map.specs.Parts.{end_of, AreApart, LieInOrder, inserted}
use Rattle.extent_map.specs.Spaces.{IsFree}
use Rattle.metatile_locks.proofs.Lists.{all_weaker}
use Rattle.cabinet.specs.declared.kept.Kept.{Kept}
use Rattle.cabinet.specs.Commands.{place_for}
use Rattle.cabinet.specs.Gaps.{HaveRegions, region, regions}
use Rattle.cabinet.specs.State.{IsKnown, State, now}
use Rattle.cabinet.proofs.Disjoint.{of_regions, other_side, regions_are}
use Rattle.cabinet.proofs.Regions.{all_regions, gap_some}
use Rattle.cache_file.specs.File.{IsApart}
use Rattle.durable_cabinet.proofs.Blobs.{AreSpared}

inserted_order : (low : ℕ) (p : Extent) (xs : List Extent) (high : ℕ) → LieInOrder low xs high → low ≤ p.place → 1 ≤ p.length → IsFree xs high p → LieInOrder low (inserted p xs) high
inserted_order low p [] high o l some free = (l, some, free.0)
inserted_order low p (x ∷ xs) high o l some free = chosen (nat_lt p.place x.place) refl (λ over. inserted_order (end_of x) p xs high o.2 over some (free.0, free.1.1))
  where
    chosen : (v : Bool) → nat_lt p.place x.place ≡ v → (end_of x ≤ p.place → LieInOrder (end_of x) (inserted p xs) high) → LieInOrder low (cond v (p ∷ x ∷ xs) (x ∷ inserted p xs)) high
    chosen true is rest =
        let under : p.place < x.place = grind (arith, nat_tests) in
        elim free.1.0 [
          | inl a ↦ absurd (let n = o.1 in omega arith)
          | inr b ↦ (l, some, (b, o.1, o.2))
        ]
    chosen false is rest =
        let over : x.place ≤ p.place = grind (arith, nat_tests) in
        elim free.1.0 [
          | inl a ↦ (o.0, o.1, rest a)
          | inr b ↦ absurd (omega arith)
        ]

in_order : (bytes : ℕ) (ts : List Kept) → HaveRegions bytes ts → LieInOrder 0 (regions ts) bytes
in_order bytes [] h = omega arith
in_order bytes (t ∷ ts) h =
    let rest = in_order bytes ts (record { some = h.some.1; within = h.within.1; disjoint = h.disjoint.1 }) in
    let apart = all_weaker (λ (u : Kept). AreApart (region t) (region u)) (λ u. AreApart (region u) (region t)) (λ u a. other_side (region t) (region u) a) ts h.disjoint.0 in
    inserted_order 0 (region t) (regions ts) bytes rest (omega arith) h.some.0 (h.within.0, of_regions (λ q. AreApart q (region t)) ts apart)

-- it ends within the blobs' bytes, and no kept region meets it
pub record IsRoomy (s : State) (place bytes : ℕ) : Type 0 where
  pub within : place + bytes ≤ s.catalogue.blob_bytes
  pub free : AreSpared (IsApart place bytes) (now s).kept

pub roomy : (s : State) → IsKnown s → (place bytes : ℕ) → place_for s bytes ≡ Some place → IsRoomy s place bytes
roomy s known place bytes gap =
    let c = s.catalogue in
    let have = regions_are c s.opening s.since known.valid known.possible in
    let free = (gap_some 0 (regions (now s).kept) c.blob_bytes bytes place (in_order c.blob_bytes (now s).kept have) gap).free in
    record {
      within = free.0;
      free = all_weaker (λ (t : Kept). AreApart (region t) (record { place = place; length = bytes })) (λ t. IsApart place bytes t.place t.length) (λ t a. a) (now s).kept (all_regions (λ q. AreApart q (record { place = place; length = bytes })) (now s).kept free.1);
    }
