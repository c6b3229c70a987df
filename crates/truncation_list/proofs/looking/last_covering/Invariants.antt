use Rattle.std.proofs.Common.{◌≡◌, ◌≤◌, length, drop, false}
use Rattle.std.specs.List.{All}
use Rattle.truncation_list.specs.Covers.{covers}
use Rattle.truncation_list.specs.Slots.{cut_in}
use Rattle.truncation_list.proofs.looking.last_covering.Given as goal

abbrev pub invariant-looking : goal.invariant-looking
invariant-looking l = record {
  within : l.rest ≤ length l.list;
  none_behind : All (λ slot. covers (cut_in l.slots slot).cover l.m l.a ≡ false) (drop l.rest l.list);
}

abbrev pub decreases-looking : goal.decreases-looking
decreases-looking l = l.rest
