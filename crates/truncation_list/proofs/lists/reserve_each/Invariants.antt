use Rattle.std.proofs.Common.{ℕ, ◌≡◌, ◌<◌, ◌≤◌, length}
use Rattle.truncation_list.specs.Index.{capacity_in, slots_in}
use Rattle.truncation_list.proofs.lists.reserve_each.Given as goal

abbrev pub invariant-reserving : goal.invariant-reserving
invariant-reserving l = record {
  long : length l.lists ≡ length l.fn.lists;
  slots : (j : ℕ) → slots_in l.lists j ≡ slots_in l.fn.lists j;
  room : (j : ℕ) → l.first ≤ j → j < l.k → length (slots_in l.lists j) < capacity_in l.lists j;
}
