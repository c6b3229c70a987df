use Rattle.metatile_locks.proofs.Reaching.{hits_in_reached, hits_reached}
use Rattle.metatile_locks.proofs.laws.laws_of_reach.Goals as goal

pub returns : goal.returns
returns c = record { matrix = hits_reached; grid = hits_in_reached }
