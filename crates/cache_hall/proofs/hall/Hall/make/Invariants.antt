use Rattle.cache_hall.proofs.hall.Hall.make.Given as goal

abbrev pub ghost-make : goal.ghost-make
ghost-make g a = g.told
