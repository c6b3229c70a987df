-- Parts that lie in chunks, one chunk after the other.
use Rattle.std.specs.Prelude.{ℕ, ◌≡◌, ◌+◌, ◌-◌, ◌<◌, ◌≤◌, List, [], ◌∷◌, ◌++◌, length, slice_index_or, take, drop, zero, suc}
use Rattle.extent_map.specs.declared.part.Extent.{Extent}
use Rattle.extent_map.specs.Parts.{end_of, LieInOrder}
use Rattle.extent_map.specs.Holes.{last_end, FitsBeforeNone}

-- how many parts a chunk has room for
abbrev pub chunk_room : ℕ
chunk_room = 1024

-- the parts of all chunks
abbrev pub all_parts : List (List Extent) → List Extent
all_parts [] = []
all_parts (ps ∷ pss) = ps ++ all_parts pss

-- the parts of the chunk of this number
abbrev pub chunk_at : List (List Extent) → ℕ → List Extent
chunk_at pss chunk = slice_index_or pss chunk []

-- the parts before an index in a chunk, those of the chunks before it too
abbrev pub parts_before : List (List Extent) → ℕ → ℕ → List Extent
parts_before [] chunk index = []
parts_before (ps ∷ pss) zero index = take index ps
parts_before (ps ∷ pss) (suc chunk) index = ps ++ parts_before pss chunk index

-- the parts from an index in a chunk on, those of the chunks behind it too
abbrev pub parts_behind : List (List Extent) → ℕ → ℕ → List Extent
parts_behind [] chunk index = []
parts_behind (ps ∷ pss) zero index = drop index ps ++ all_parts pss
parts_behind (ps ∷ pss) (suc chunk) index = parts_behind pss chunk index

-- there is such a spot: a chunk, and an index in it or at its end
pub record IsSpot (pss : List (List Extent)) (chunk index : ℕ) : Type 0 where
  pub known : chunk < length pss
  pub within : index ≤ length (chunk_at pss chunk)

-- the part fits between the parts before a spot and those behind it
pub record FitsAt (pss : List (List Extent)) (size chunk index : ℕ) (p : Extent) : Type 0 where
  pub spot : IsSpot pss chunk index
  pub before : LieInOrder 0 (parts_before pss chunk index) p.place
  pub behind : LieInOrder (end_of p) (parts_behind pss chunk index) size

-- no two chunks side by side fit into one
abbrev pub AreCrowded : List (List Extent) → Type 0
AreCrowded [] = Unit {0}
AreCrowded (ps ∷ []) = Unit {0}
AreCrowded (ps ∷ qs ∷ pss) = (chunk_room < length ps + length qs) × AreCrowded (qs ∷ pss)

-- the first so many chunks, at least one, are all that may have parts
pub record IsUsed (pss : List (List Extent)) (used : ℕ) : Type 0 where
  pub some : 1 ≤ used
  pub within : 1 < used → used ≤ length pss
  pub none : all_parts (drop used pss) ≡ []

-- the parts of a chunk from an index on have come into a chunk of their own behind it
pub record IsDivided (old : List (List Extent)) (chunk kept : ℕ) (new : List (List Extent)) : Type 0 where
  pub len : length new ≡ length old
  pub known : chunk + 1 < length new
  pub left : chunk_at new chunk ≡ take kept (chunk_at old chunk)
  pub right : chunk_at new (chunk + 1) ≡ drop kept (chunk_at old chunk)
  pub before_left : (index : ℕ) → index ≤ kept → parts_before new chunk index ≡ parts_before old chunk index
  pub behind_left : (index : ℕ) → index ≤ kept → parts_behind new chunk index ≡ parts_behind old chunk index
  pub before_right : (index : ℕ) → kept ≤ index → parts_before new (chunk + 1) (index - kept) ≡ parts_before old chunk index
  pub behind_right : (index : ℕ) → kept ≤ index → parts_behind new (chunk + 1) (index - kept) ≡ parts_behind old chunk index

-- the search for so many bytes has come behind the first so many chunks, to the place where their parts end
pub record IsSearched (pss : List (List Extent)) (bytes chunk place : ℕ) : Type 0 where
  pub within : chunk ≤ length pss
  pub place_is : place ≡ last_end 0 (parts_before pss chunk 0)
  pub none : FitsBeforeNone bytes 0 (parts_before pss chunk 0)
