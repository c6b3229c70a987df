use Rattle.std.proofs.Common.{inr, refl}
use Rattle.server_command.proofs.setup.world_with.Goals as goal

pub returns-in-Err-world_on-clause-refused : goal.returns-in-Err-world_on-clause-refused
returns-in-Err-world_on-clause-refused g c = inr (c.in-Ok.book, c.in-Ok.ensures.reads, c.in-Err-world_on.status, refl, c.in-Err-world_on.ensures.refused)
