use Rattle.std.proofs.Common.{◌-◌}
use Rattle.job_board.specs.Calls.{IsBoardPass}
use Rattle.job_requests.proofs.Looking.{HasLooked}
use Rattle.job_requests.proofs.listing.statuses.Given as goal

abbrev pub invariant-looking : goal.invariant-looking
invariant-looking g l = record {
  of : IsBoardPass l.board.turnstile.table l.pass;
  looked : HasLooked l.number l.text.items l.initial.pass l.pass;
}

abbrev pub decreases-looking : goal.decreases-looking
decreases-looking g l = 1025 - l.number
