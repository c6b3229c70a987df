use Rattle.turnstile.proofs.turnstile.Turnstile.make.Given as goal

abbrev pub ghost-of : goal.ghost-of
ghost-of g a = g.told
