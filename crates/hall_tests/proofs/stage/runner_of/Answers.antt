use Rattle.std.proofs.Common.{All, List, false, subst, sym}
use Rattle.std.proofs.lemmas.Bool.{false≢true}
use Rattle.job_board.specs.Calls.{BoardHolding, IsBoardPass}
use Rattle.seed_jobs.specs.Idles.{Idle, MayJoin}
use Rattle.hall_tests.proofs.stage.runner_of.Goals as goal

pub returns : goal.returns
returns g c = record {
  ready = λ boards table cat of own untold.
      record {
        of_board = subst (λ (p : BoardHolding). IsBoardPass boards p) (sym c.in_ok-runner.ensures.board) of;
        idle = subst (λ (is : List Idle). All (MayJoin table cat) is) (sym c.in_ok-runner.ensures.idle) (c.in_ok-idle.ensures.join table cat false own untold (λ k d within is. absurd (false≢true is)));
      };
}
