use Rattle.server_command.proofs.setup.world_on.Given as goal

abbrev pub ghost-stage_of : goal.ghost-stage_of
ghost-stage_of g a = g.told
