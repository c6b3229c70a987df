use Rattle.command_setup.proofs.Fitting.{may_be}
use Rattle.tile_command.proofs.upkeep.kept_up.Goals as goal

pub step-requires-clause-fit : goal.step-requires-clause-fit
step-requires-clause-fit g c = c.requires _ (may_be _ _ c.in-Ok.ensures.configures)
