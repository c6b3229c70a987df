use Rattle.std.proofs.Common.{ℕ, ◌≡◌, ◌<◌, ◌≤◌, length, max}
use Rattle.truncation_list.specs.Index.{capacity_in, slots_in}
use Rattle.truncation_list.specs.Slots.{without}
use Rattle.truncation_list.proofs.lists.take_from.Given as goal

abbrev pub invariant-taking : goal.invariant-taking
invariant-taking l = record {
  long : length l.lists ≡ length l.fn.lists;
  end : l.k ≤ max l.first l.end;
  capacity : (j : ℕ) → capacity_in l.lists j ≡ capacity_in l.fn.lists j;
  done : (j : ℕ) → l.first ≤ j → j < l.k → slots_in l.lists j ≡ without l.slot (slots_in l.fn.lists j);
  before : (j : ℕ) → j < l.first → slots_in l.lists j ≡ slots_in l.fn.lists j;
  after : (j : ℕ) → l.k ≤ j → slots_in l.lists j ≡ slots_in l.fn.lists j;
}
