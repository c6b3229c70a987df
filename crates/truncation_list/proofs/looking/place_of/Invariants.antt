use Rattle.std.proofs.Common.{ℕ, ◌-◌, ◌<◌, ◌≤◌, length, get_or}
use Rattle.truncation_list.specs.Slots.{cuts_in, no_cut}
use Rattle.truncation_list.proofs.looking.place_of.Given as goal

abbrev pub invariant-halving : goal.invariant-halving
invariant-halving l = record {
  order : l.low ≤ l.high;
  within : l.high ≤ length l.list;
  before : (i : ℕ) → i < l.low → (get_or (cuts_in l.slots l.list) i no_cut).number < l.number;
  from : (i : ℕ) → l.high ≤ i → i < length l.list → l.number ≤ (get_or (cuts_in l.slots l.list) i no_cut).number;
}

abbrev pub decreases-halving : goal.decreases-halving
decreases-halving l = l.high - l.low
