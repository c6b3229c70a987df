use Rattle.std.specs.Prelude.{false}
use Rattle.job_board.proofs.board.turnstile_over.Given as goal

abbrev pub ghost-make : goal.ghost-make
ghost-make g a = false
