use Rattle.gate_journal.proofs.Behind.{settled_opens, sound_opens}
use Rattle.cache_file.proofs.Sparing.{whole_now}
use Rattle.cache_file.proofs.laws.laws_of_files.Goals as goal

pub returns-clause-settled : goal.returns-clause-settled
returns-clause-settled g c f = settled_opens f.journal (g.D.Disk.state f.disk)

pub returns-clause-sound : goal.returns-clause-sound
returns-clause-sound g c f = sound_opens f.journal (g.D.Disk.state f.disk)

pub returns-clause-whole : goal.returns-clause-whole
returns-clause-whole g c f sound = whole_now f.start f.journal (g.D.Disk.state f.disk) f.behind sound
