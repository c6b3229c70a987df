use Rattle.tile_service.proofs.Faultless.{none_named}
use Rattle.tile_service.proofs.laws.laws_of_memory.Goals as goal

pub returns : goal.returns
returns c = none_named
