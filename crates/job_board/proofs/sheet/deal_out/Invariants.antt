use Rattle.std.proofs.Common.{◌≡◌, ◌-◌, ◌<◌, ◌≤◌, ℕ, Some, length, slice_get}
use Rattle.job_board.specs.Hands.{fresh_holding}
use Rattle.job_board.specs.Seats.{IsDealer}
use Rattle.job_board.proofs.sheet.deal_out.Given as goal

abbrev pub invariant-dealing : goal.invariant-dealing
invariant-dealing l = record {
  within : l.dealt ≤ l.count;
  dealer : IsDealer l.sheet l.dealt l.seat;
  count : length l.hands.items ≡ l.dealt;
  each : (number : ℕ) → number < l.dealt → slice_get l.hands.items number ≡ Some (fresh_holding l.sheet (Some number));
}

abbrev pub decreases-dealing : goal.decreases-dealing
decreases-dealing l = l.count - l.dealt
