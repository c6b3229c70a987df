-- Where a part goes among those that are taken, and how wide the holes between them are.
use Rattle.std.specs.Prelude.{ℕ, ◌≡◌, ◌+◌, ◌<◌, ◌≤◌, List, [], ◌∷◌, length, take, drop}
use Rattle.extent_map.specs.declared.part.Extent.{Extent}
use Rattle.extent_map.specs.Parts.{end_of, LieInOrder}

-- where the last of the parts ends, and without a part the place from which they lie
abbrev pub last_end : ℕ → List Extent → ℕ
last_end from [] = from
last_end from (p ∷ ps) = last_end (end_of p) ps

-- where the first of the parts starts, and without a part the size
abbrev pub first_start : List Extent → ℕ → ℕ
first_start [] size = size
first_start (p ∷ ps) size = p.place

-- the part fits after the first so many of the taken parts and before the others
pub record IsHole (taken : List Extent) (size index : ℕ) (p : Extent) : Type 0 where
  pub within : index ≤ length taken
  pub behind : LieInOrder 0 (take index taken) p.place
  pub ahead : LieInOrder (end_of p) (drop index taken) size

-- before none of the parts so many bytes fit; the hole before the first of them begins at a place
abbrev pub FitsBeforeNone : ℕ → ℕ → List Extent → Type 0
FitsBeforeNone bytes from [] = Unit {0}
FitsBeforeNone bytes from (p ∷ ps) = (p.place < from + bytes) × FitsBeforeNone bytes (end_of p) ps

-- so many bytes fit before the part at an index, from a place on, and before no earlier one, where the first has no hole before it
pub record IsGap (parts : List Extent) (index place bytes : ℕ) : Type 0 where
  pub within : index < length parts
  pub place_is : (from : ℕ) → place ≡ last_end from (take index parts)
  pub fits : place + bytes ≤ first_start (drop index parts) 0
  pub none : FitsBeforeNone bytes (first_start parts 0) (take index parts)

-- so many bytes fit before the part at an index, from a place on, and before no earlier one, where the first hole begins at `from`
pub record IsFirstHole (parts : List Extent) (from index place bytes : ℕ) : Type 0 where
  pub within : index < length parts
  pub place_is : place ≡ last_end from (take index parts)
  pub fits : place + bytes ≤ first_start (drop index parts) 0
  pub none : FitsBeforeNone bytes from (take index parts)

-- where the parts start and end, both 0 without a part, and how wide a hole between two of them is at most
pub record IsSummed (parts : List Extent) (start end widest : ℕ) : Type 0 where
  pub start_is : start ≡ first_start parts 0
  pub end_is : end ≡ last_end 0 parts
  pub bounded : FitsBeforeNone (widest + 1) (first_start parts 0) parts

-- the first so many of the parts end at this place, and so many bytes fit before none of them
pub record IsPassed (parts : List Extent) (bytes index place : ℕ) : Type 0 where
  pub within : index ≤ length parts
  pub place_is : place ≡ last_end (first_start parts 0) (take index parts)
  pub none : FitsBeforeNone bytes (first_start parts 0) (take index parts)
