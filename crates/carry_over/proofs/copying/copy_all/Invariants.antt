use Rattle.std.proofs.Common.{◌≡◌, ◌+◌, ◌≤◌, IsTrue, length, drop}
use Rattle.std.specs.List.{AllByRecursion}
use Rattle.base.specs.Causes.{RoseBy}
use Rattle.disk_model.specs.Content.{Same}
use Rattle.disk_model.specs.Images.{ChangesBy}
use Rattle.carry_over.specs.Copied.{IsCopyOn, IsWhole}
use Rattle.carry_over.proofs.Copies.{WillBePart}
use Rattle.carry_over.proofs.copying.copy_all.Given as goal

abbrev pub invariant-copying : goal.invariant-copying
invariant-copying g l = record {
  old_told : g.D.Disk.told l.old ≡ g.D.Disk.told l.fn.old;
  quiet : IsTrue (g.D.Disk.told l.fn.old) → ChangesBy Same (g.D.Disk.state l.fn.old) (g.D.Disk.state l.old);
  old_later : g.D.Disk.faults l.fn.old ≤ g.D.Disk.faults l.old;
  told : g.E.Disk.told l.new.disk ≡ g.E.Disk.told l.fn.new.disk;
  start : l.new.start ≡ l.fn.new.start;
  journal : l.new.journal ≡ l.fn.new.journal;
  whole : IsWhole (g.E.Disk.told l.new.disk) l.new.journal (g.E.Disk.state l.new.disk);
  part : WillBePart l.kept.items (drop l.at l.chosen) l.chosen;
  count : length l.kept.items + l.unread ≡ l.at;
  unread : RoseBy l.unread (g.D.Disk.faults l.fn.old) (g.D.Disk.faults l.old);
  copied : IsTrue (g.D.Disk.told l.fn.old) → IsTrue (g.E.Disk.told l.fn.new.disk) → AllByRecursion (IsCopyOn l.start (g.D.Disk.state l.fn.old).seen l.fn.new.start (g.E.Disk.state l.new.disk)) l.kept.items;
  later : g.E.Disk.faults l.fn.new.disk ≤ g.E.Disk.faults l.new.disk;
}
