use Rattle.command_setup.proofs.Fitting.{may_be}
use Rattle.server_command.proofs.setup.made_ready.Goals as goal

pub world_with-requires : goal.world_with-requires
world_with-requires g c κs within =
    let is = may_be _ _ c.in-Ok.ensures.read.read in
    (within.0, (within.1, (c.in-Ok.ensures.valid, (c.requires.1.1.0 _ is, λ told. let holds = c.requires.1.1.1 told in (holds.0, holds.1 _ is)))))
