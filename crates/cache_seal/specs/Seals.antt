-- What a seal does to the sums of some tiles.
use Rattle.std.specs.Prelude.{ℕ, ◌≡◌, ◌≢◌, ◌/◌, Bool, IsTrue, List, length, fold}
use Rattle.std.specs.List.{AllByRecursion, AllZip}
use Rattle.disk_model.specs.Content.{Content, bytes_at}
use Rattle.summed_disk.specs.Entries.{entry_at, sum_at}
use Rattle.summed_disk.specs.Sum.{part_sum}
use Rattle.cache_seal.specs.declared.counting.Fate.{Fate}
use Rattle.cache_seal.specs.declared.counting.SealTally.{SealTally}
use Rattle.cache_seal.specs.declared.tiles.DiskTile.{DiskTile}
use Rattle.cache_seal.specs.Fates.{Becomes, noted}

-- the sum of a tile, with the bytes that a read of the disk gives
abbrev pub sum_of : Content → DiskTile → ℕ
sum_of seen tile = part_sum tile.number tile.from (bytes_at seen tile.at tile.length)

-- what becomes of the entry of a tile
abbrev pub BecomesOf : ℕ → Bool → Content → Content → Content → DiskTile → Fate → Type 0
BecomesOf grain anew seen old new tile fate = Becomes anew (sum_of seen tile) (sum_at old grain tile.at) (sum_at new grain tile.at) fate

-- no tile of the list begins in this grain
abbrev pub IsBeside : ℕ → List DiskTile → ℕ → Type 0
IsBeside grain tiles k = AllByRecursion (λ t. k ≢ t.at / grain) tiles

-- The entry of each tile became so, and each other entry is as before.
pub record AreSealed (grain : ℕ) (anew : Bool) (seen : Content) (tiles : List DiskTile) (fates : List Fate) (old new : Content) : Type 0 where
  pub each : AllZip (BecomesOf grain anew seen old new) tiles fates
  pub others : (k : ℕ) → IsBeside grain tiles k → entry_at new k ≡ entry_at old k

-- Each tile came to one end, which was counted; where both disks are modelled, that is what became of its entry.
pub record HasSealed (disk_told sums_told : Bool) (grain : ℕ) (anew : Bool) (seen : Content) (tiles : List DiskTile) (old new : Content) (before after : SealTally) : Type 0 where
  pub fates : List Fate
  pub one_each : length fates ≡ length tiles
  pub counted : after ≡ fold noted before fates
  pub sealed : IsTrue disk_told → IsTrue sums_told → AreSealed grain anew seen tiles fates old new
