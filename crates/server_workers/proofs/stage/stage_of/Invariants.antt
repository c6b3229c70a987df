use Rattle.server_workers.proofs.stage.stage_of.Given as goal

abbrev pub ghost-make : goal.ghost-make
ghost-make g a = g.told
