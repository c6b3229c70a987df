use Rattle.std.proofs.Common.{◌≡◌, ℕ, ◌+◌, ◌-◌, ◌*◌, ◌<◌, ◌≤◌, IsTrue}
use Rattle.disk_model.specs.Content.{bytes_at, TornWrite}
use Rattle.disk_model.specs.Images.{ChangesBy}
use Rattle.gate_journal.specs.Layout.{half_at, other_half}
use Rattle.gate_journal.specs.Sound.{slot_of}
use Rattle.gate_journal.proofs.journal.Journal.fill_other.Given as goal

abbrev pub invariant-loop-done : goal.invariant-loop-done
invariant-loop-done g l = record {
  same_told : g.D.Disk.told l.disk ≡ g.D.Disk.told l.fn.disk;
  changes : IsTrue (g.D.Disk.told l.fn.disk) → ChangesBy (TornWrite (half_at l.self.slots (other_half l.self.half)) (64 * l.self.slots)) (g.D.Disk.state l.fn.disk) (g.D.Disk.state l.disk);
  filled : IsTrue (g.D.Disk.told l.fn.disk) → (i : ℕ) → i < l.done → bytes_at (g.D.Disk.state l.disk).seen (half_at l.self.slots (other_half l.self.half) + 64 * i) 64 ≡ slot_of l.bodies i;
  within : l.done ≤ l.self.slots;
  faults : g.D.Disk.faults l.fn.disk ≤ g.D.Disk.faults l.disk;
}

abbrev pub decreases-loop-done : goal.decreases-loop-done
decreases-loop-done g l = l.self.slots - l.done
