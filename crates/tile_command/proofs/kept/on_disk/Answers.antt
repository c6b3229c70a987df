use Rattle.command_setup.proofs.Fitting.{may_be}
use Rattle.tile_command.proofs.kept.on_disk.Goals as goal

pub run-requires-clause-ours : goal.run-requires-clause-ours
run-requires-clause-ours g c = c.requires _ (may_be _ _ c.in-Ok.ensures.read.read)
