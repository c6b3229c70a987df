use Rattle.catalogue_change.proofs.Carrying.{same_factors, same_matrix, same_size, stays_meta}
use Rattle.catalogue_change.proofs.laws.laws_of_changes.Goals as goal

pub returns : goal.returns
returns c = record { meta = stays_meta; size = same_size; matrix = same_matrix; factors = same_factors }
