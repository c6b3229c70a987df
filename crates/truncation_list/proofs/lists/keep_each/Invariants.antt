use Rattle.std.proofs.Common.{ℕ, ◌≡◌, ◌<◌, ◌≤◌, length}
use Rattle.truncation_list.specs.Index.{capacity_in, slots_in}
use Rattle.truncation_list.specs.Slots.{taken}
use Rattle.truncation_list.proofs.lists.keep_each.Given as goal

abbrev pub invariant-keeping : goal.invariant-keeping
invariant-keeping l = record {
  long : length l.lists ≡ length l.fn.lists;
  capacity : (j : ℕ) → capacity_in l.lists j ≡ capacity_in l.fn.lists j;
  done : (j : ℕ) → j < l.k → slots_in l.lists j ≡ taken l.slots (slots_in l.fn.lists j);
  after : (j : ℕ) → l.k ≤ j → slots_in l.lists j ≡ slots_in l.fn.lists j;
}
