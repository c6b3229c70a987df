-- A file of sums: for each grain of a disk, so many bytes of it, the sum of the tile that begins there, in eight bytes.
use Rattle.std.specs.Prelude.{◌≡◌, ◌≢◌, ℕ, ◌+◌, ◌*◌, ◌/◌, ◌≤◌, List, length, take, drop}
use Rattle.byteorder.specs.Endian.{little_number}
use Rattle.disk_model.specs.Content.{Content, bytes_at}
use Rattle.summed_disk.specs.Sum.{part_sum}

-- the sum that stands for a grain
unfoldable pub entry_at : Content → ℕ → ℕ
entry_at sums k = little_number 8 (bytes_at sums (8 * k) 8)

-- the sum that stands for what begins at a place of the disk
abbrev pub sum_at : Content → ℕ → ℕ → ℕ
sum_at sums grain at = entry_at sums (at / grain)

-- Each whole piece of some bytes has its sum; they are those of a part of a blob, and stand on the disk from a place on. All other sums are as
-- before.
pub record AreSummed (grain number from piece at : ℕ) (bytes : List ℕ) (old new : Content) : Type 0 where
  pub each : (i : ℕ) → i * piece + piece ≤ length bytes → sum_at new grain (at + i * piece) ≡ part_sum number (from + i * piece) (take piece (drop (i * piece) bytes))
  pub others : (k : ℕ) → ((i : ℕ) → i * piece + piece ≤ length bytes → k ≢ (at + i * piece) / grain) → entry_at new k ≡ entry_at old k
