-- What is true of the chunks at all times.
use Rattle.std.specs.Prelude.{ℕ, ◌≡◌, ◌+◌, ◌*◌, ◌/◌, ◌<◌, ◌≤◌, List, [], ◌∷◌, ◌++◌, drop, length, slice_index_or}
use Rattle.kept_areas.specs.declared.spot.KeptSpot.{KeptSpot}
use Rattle.kept_areas.specs.Areas.{AreOnce, all_spots}

-- how many keys a chunk has room for
abbrev pub chunk_room : ℕ
chunk_room = 512

-- the keys of the chunk of this number
abbrev pub chunk_at : List (List KeptSpot) → ℕ → List KeptSpot
chunk_at sss chunk = slice_index_or sss chunk []

-- one key has come in somewhere among the others
pub record IsEntered (s : KeptSpot) (old new : List KeptSpot) : Type 0 where
  pub before : List KeptSpot
  pub behind : List KeptSpot
  pub old_is : old ≡ before ++ behind
  pub new_is : new ≡ before ++ s ∷ behind

-- no two chunks side by side fit into one
abbrev pub AreCrowded : List (List KeptSpot) → Type 0
AreCrowded [] = Unit {0}
AreCrowded (ss ∷ []) = Unit {0}
AreCrowded (ss ∷ ts ∷ sss) = (chunk_room < length ss + length ts) × AreCrowded (ts ∷ sss)

-- the first so many chunks, at least one, are all that may have keys
pub record IsUsed (sss : List (List KeptSpot)) (used : ℕ) : Type 0 where
  pub some : 1 ≤ used
  pub none : all_spots (drop used sss) ≡ []

-- no two keys are of one metatile, no more are promised room than half of the chunks have, and chunks that may have keys stand first
pub record IsKept (sss : List (List KeptSpot)) (taken room used : ℕ) : Type 0 where
  pub once : AreOnce (all_spots sss)
  pub counted : taken ≡ length (all_spots sss)
  pub within : taken ≤ room
  pub enough : room ≤ length sss / 2 * chunk_room
  pub first : IsUsed sss used
