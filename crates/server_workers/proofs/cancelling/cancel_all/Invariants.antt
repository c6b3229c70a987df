use Rattle.job_board.specs.Calls.{IsBoardPass}
use Rattle.server_workers.specs.Cancelled.{HasStoppedTo}
use Rattle.server_workers.proofs.cancelling.cancel_all.Given as goal

abbrev pub invariant-cancelling : goal.invariant-cancelling
invariant-cancelling g l = record {
  of : IsBoardPass l.board.turnstile.table l.pass;
  stops : HasStoppedTo l.index l.initial.pass l.pass;
}
