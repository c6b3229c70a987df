use Rattle.std.proofs.Common.{◌≡◌, ◌-◌, ◌≤◌, IsTrue, length}
use Rattle.disk_model.specs.Content.{Same, bytes_at}
use Rattle.disk_model.specs.Images.{ChangesBy}
use Rattle.carry_over.proofs.reading.read_blob.Given as goal

abbrev pub invariant-reading : goal.invariant-reading
invariant-reading g l = record {
  told : g.D.Disk.told l.disk ≡ g.D.Disk.told l.fn.disk;
  quiet : IsTrue (g.D.Disk.told l.fn.disk) → ChangesBy Same (g.D.Disk.state l.fn.disk) (g.D.Disk.state l.disk);
  long : length l.blob.items ≡ l.from;
  read : IsTrue (g.D.Disk.told l.fn.disk) → l.blob.items ≡ bytes_at (g.D.Disk.state l.fn.disk).seen l.fn.at l.from;
  within : l.from ≤ l.size;
  later : g.D.Disk.faults l.fn.disk ≤ g.D.Disk.faults l.disk;
}

abbrev pub decreases-reading : goal.decreases-reading
decreases-reading g l = l.size - l.from
