use Rattle.server_command.proofs.setup.made_ready.Given as goal

abbrev pub ghost-world_with : goal.ghost-world_with
ghost-world_with g a = g.told
