use Rattle.std.proofs.Common.{◌≡◌, ◌-◌, ◌≤◌, vec_len, IsTrue}
use Rattle.disk_model.specs.Content.{Same}
use Rattle.disk_model.specs.Images.{ChangesBy}
use Rattle.gate_journal.specs.Visiting.{VisitsFirst}
use Rattle.gate_journal.proofs.visiting.visit_records.Given as goal

abbrev pub invariant-loop-done : goal.invariant-loop-done
invariant-loop-done g l = record {
  same_told : g.D.Disk.told l.disk ≡ g.D.Disk.told l.fn.disk;
  quiet : IsTrue (g.D.Disk.told l.fn.disk) → ChangesBy Same (g.D.Disk.state l.fn.disk) (g.D.Disk.state l.disk);
  faults : g.D.Disk.faults l.fn.disk ≤ g.D.Disk.faults l.disk;
  size : vec_len l.buffer ≡ 65536;
  within : l.done ≤ l.slots;
  first : VisitsFirst g.V.Visit.visits (g.D.Disk.told l.fn.disk) (g.D.Disk.state l.fn.disk).seen l.start l.done l.fn.visit l.visit l.found;
}

abbrev pub decreases-loop-done : goal.decreases-loop-done
decreases-loop-done g l = l.slots - l.done
