use Rattle.summed_disk.proofs.Noticing.{same_text}
use Rattle.summed_disk.proofs.laws.laws_of_sums.Goals as goal

pub returns : goal.returns
returns c = record { noticed = same_text }
