use Rattle.gate_journal.proofs.Behind.{settled_opens, sound_opens, stays_behind, stays_past, stays_read}
use Rattle.gate_journal.proofs.laws.laws_of_journals.Goals as goal

pub returns : goal.returns
returns g c = record {
  settled = λ j disk settled sound. settled_opens j (g.D.Disk.state disk) settled sound;
  sound = λ j disk sound. sound_opens j (g.D.Disk.state disk) sound;
  behind = λ j at n old new settled told sound past change.
      stays_behind j at n (g.D.Disk.state old) (g.D.Disk.state new) settled sound (g.met.D.Disk.lawful old told).reads_as past change;
  past = stays_past;
  reads = λ j old new sound change. stays_read j (g.D.Disk.state old) (g.D.Disk.state new) sound change;
}
