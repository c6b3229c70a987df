use Rattle.std.proofs.Common.{ℕ, ◌≡◌, ◌≤◌, length}
use Rattle.truncation_list.specs.Index.{slots_in}
use Rattle.truncation_list.proofs.lists.grow.Given as goal

abbrev pub invariant-growing : goal.invariant-growing
invariant-growing l = record {
  slots : (k : ℕ) → slots_in l.lists.items k ≡ slots_in l.fn.lists.items k;
  long : l._count ≤ length l.lists.items;
}
