-- A space of bytes, of which parts are taken.
use Rattle.std.specs.Prelude.{ℕ, ◌≡◌, ◌+◌, ◌<◌, ◌≤◌, List}
use Rattle.std.specs.List.{AllByRecursion}
use Rattle.extent_map.specs.declared.part.Extent.{Extent}
use Rattle.extent_map.specs.Parts.{part_at, end_of, AreApart, LieInOrder, inserted}

-- the taken parts in order of place, the bytes of the space, and how many parts can be taken with no more memory
pub record Space : Type 0 where
  pub parts : List Extent
  pub size : ℕ
  pub spare : ℕ

-- the taken parts lie in order within the space, so that no byte is in two of them
abbrev pub IsSound : Space → Type 0
IsSound s = LieInOrder 0 s.parts s.size

-- the part lies within a space of this size, and no byte of it is in one of the taken parts
abbrev pub IsFree : List Extent → ℕ → Extent → Type 0
IsFree taken size p = (end_of p ≤ size) × AllByRecursion (λ q. AreApart q p) taken

-- nowhere below a place are so many bytes free
abbrev pub NoneFreeBelow : List Extent → ℕ → ℕ → ℕ → Type 0
NoneFreeBelow taken size bytes place = (lower : ℕ) → lower < place → IsFree taken size (part_at lower bytes) → ⊥

-- nowhere are so many bytes free
abbrev pub NoneFree : List Extent → ℕ → ℕ → Type 0
NoneFree taken size bytes = (place : ℕ) → IsFree taken size (part_at place bytes) → ⊥

-- the space after is the one before with this part taken: it stands in its place among the others, and there is one fewer to spare
pub record IsTaken (before : Space) (p : Extent) (after : Space) : Type 0 where
  pub entered : after.parts ≡ inserted p before.parts
  pub same_size : after.size ≡ before.size
  pub one_less : before.spare ≡ after.spare + 1
