-- A blob on a disk.
use Rattle.std.specs.Prelude.{◌≡◌, ℕ, ◌+◌, ◌<◌, ◌≤◌, List, length}
use Rattle.disk_model.specs.Content.{Content, byte_at, bytes_at, IsOutside}

-- A content holds a blob at a place, and a read gives all other bytes as before: zeros where a gap was.
pub record HasBlob (place : ℕ) (blob : List ℕ) (before after : Content) : Type 0 where
  pub held : bytes_at after place (length blob) ≡ blob
  pub within : 0 < length blob → place + length blob ≤ length after
  pub no_shorter : length before ≤ length after
  pub others : (i : ℕ) → IsOutside place (length blob) i → byte_at after i ≡ byte_at before i
