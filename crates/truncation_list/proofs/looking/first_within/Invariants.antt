use Rattle.std.proofs.Common.{◌≡◌, take, false}
use Rattle.std.specs.List.{All}
use Rattle.truncation_list.specs.Contains.{contains}
use Rattle.truncation_list.specs.Slots.{cut_in}
use Rattle.truncation_list.proofs.looking.first_within.Given as goal

abbrev pub invariant-looking : goal.invariant-looking
invariant-looking l = record { none : All (λ slot. contains l.cover (cut_in l.slots slot).cover ≡ false) (take l.p l.list) }
