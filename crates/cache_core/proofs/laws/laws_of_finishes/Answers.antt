use Rattle.cache_core.proofs.Alike.{blob_long, finished_alike}
use Rattle.cache_core.proofs.laws.laws_of_finishes.Goals as goal

pub returns : goal.returns
returns c = record { size = blob_long; alike = finished_alike }
