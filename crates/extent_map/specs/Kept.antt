-- What is true of a space at all times.
use Rattle.std.specs.Prelude.{ℕ, ◌≡◌, ◌*◌, ◌/◌, ◌≤◌, List, length}
use Rattle.extent_map.specs.declared.part.Extent.{Extent}
use Rattle.extent_map.specs.Parts.{LieInOrder}
use Rattle.extent_map.specs.Chunks.{all_parts, chunk_room, IsUsed}

-- the parts lie in order, no more are promised room than half of the chunks have, and chunks that may have parts stand first
pub record IsKept (pss : List (List Extent)) (size taken room used : ℕ) : Type 0 where
  pub ordered : LieInOrder 0 (all_parts pss) size
  pub counted : taken ≡ length (all_parts pss)
  pub within : taken ≤ room
  pub enough : room ≤ length pss / 2 * chunk_room
  pub first : IsUsed pss used
