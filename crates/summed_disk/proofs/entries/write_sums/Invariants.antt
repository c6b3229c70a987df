use Rattle.std.proofs.Common.{◌≡◌, ◌≤◌, IsTrue}
use Rattle.summed_disk.proofs.Keeping.{AreSummedTo}
use Rattle.summed_disk.proofs.entries.write_sums.Given as goal

abbrev pub invariant-loop-i : goal.invariant-loop-i
invariant-loop-i g l = record {
  same_told : g.S.Disk.told l.sums ≡ g.S.Disk.told l.fn.sums;
  summed : IsTrue (g.S.Disk.told l.fn.sums) → AreSummedTo l.i l.grain l.part.number l.part.from l.piece l.at l.bytes (g.S.Disk.state l.fn.sums).seen (g.S.Disk.state l.sums).seen;
  faults : g.S.Disk.faults l.fn.sums ≤ g.S.Disk.faults l.sums;
}
