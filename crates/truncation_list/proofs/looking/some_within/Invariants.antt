use Rattle.std.proofs.Common.{ℕ, ◌≡◌, ◌≤◌, ◌<◌, false}
use Rattle.std.specs.List.{All}
use Rattle.truncation_list.specs.Contains.{contains}
use Rattle.truncation_list.specs.Index.{first_list, slots_in}
use Rattle.truncation_list.specs.Slots.{cut_in}
use Rattle.truncation_list.proofs.looking.some_within.Given as goal

abbrev pub invariant-looking : goal.invariant-looking
invariant-looking l = record {
  none : (k : ℕ) → first_list l.cover ≤ k → k < l.k → All (λ slot. contains l.cover (cut_in l.slots slot).cover ≡ false) (slots_in l.lists k);
}
