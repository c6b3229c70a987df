use Rattle.std.proofs.Common.{◌≡◌, ◌≤◌, length, drop, false}
use Rattle.std.specs.List.{All}
use Rattle.truncation_list.specs.Slots.{cut_in}
use Rattle.truncation_list.proofs.HitRules.{hits_since}
use Rattle.truncation_list.proofs.looking.hit_since.Given as goal

abbrev pub invariant-looking : goal.invariant-looking
invariant-looking l = record {
  within : l.rest ≤ length l.list;
  none_behind : All (λ slot. hits_since l.m l.block l.number (cut_in l.slots slot) ≡ false) (drop l.rest l.list);
}

abbrev pub decreases-looking : goal.decreases-looking
decreases-looking l = l.rest
