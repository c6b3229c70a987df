-- Each tile that is counted as unread has a fault of its own.
use Rattle.std.specs.Prelude.{ℕ, ◌≡◌, ◌+◌}
use Rattle.base.specs.Causes.{RoseBy}

-- A count of unread tiles went from one number to another, while the disk and the sums went from one count of faults to another: the tiles that
-- were added are so many of the disk and so many of the sums, and the count of faults of each rose by as many at least. No fault stands for two
-- tiles, but where a count of faults is at its last value.
pub record HaveFaults (before after disk_before disk_after sums_before sums_after : ℕ) : Type 0 where
  pub of_disk : ℕ
  pub of_sums : ℕ
  pub counted : after ≡ before + of_disk + of_sums
  pub disk : RoseBy of_disk disk_before disk_after
  pub sums : RoseBy of_sums sums_before sums_after
