use Rattle.server_command.proofs.setup.world_with.Given as goal

abbrev pub ghost-world_on : goal.ghost-world_on
ghost-world_on g a = g.told
