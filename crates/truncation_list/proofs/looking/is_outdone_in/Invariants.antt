use Rattle.std.proofs.Common.{◌≡◌, ◌≤◌, length, drop, false}
use Rattle.std.specs.List.{All}
use Rattle.truncation_list.specs.Slots.{cut_in}
use Rattle.truncation_list.proofs.Outdone.{outdoes}
use Rattle.truncation_list.proofs.looking.is_outdone_in.Given as goal

abbrev pub invariant-looking : goal.invariant-looking
invariant-looking l = record {
  within : l.rest ≤ length l.list;
  none_behind : All (λ slot. outdoes l.cut (cut_in l.slots slot) ≡ false) (drop l.rest l.list);
}

abbrev pub decreases-looking : goal.decreases-looking
decreases-looking l = l.rest
