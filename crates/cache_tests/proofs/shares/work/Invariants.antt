use Rattle.std.proofs.Common.{◌≡◌, ◌-◌, ◌≤◌, ℕ, Some, length}
use Rattle.job_board.specs.declared.standing.HandEnd.TheVariants.{Open}
use Rattle.job_board.specs.Hands.{own}
use Rattle.cache_tests.proofs.shares.work.Given as goal

abbrev pub invariant-claiming : goal.invariant-claiming
invariant-claiming l = record {
  numbered : (number : ℕ) × (l.hand.number ≡ Some number);
  of : l.hand.sheet ≡ l.sheet;
  number_is : l.hand.number ≡ l.fn.hand.number;
  is_open : (own l.hand).end ≡ Open;
  count_is : length (own l.hand).claimed ≡ l.count;
  within : l.count ≤ l.sheet.places;
}

abbrev pub decreases-claiming : goal.decreases-claiming
decreases-claiming l = l.sheet.places - l.count
