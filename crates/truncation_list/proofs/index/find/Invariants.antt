use Rattle.std.proofs.Common.{◌≡◌, false, take}
use Rattle.std.specs.List.{All}
use Rattle.truncation_list.specs.Index.{is_of}
use Rattle.truncation_list.proofs.index.find.Given as goal

abbrev pub invariant-finding : goal.invariant-finding
invariant-finding l = record { others : All (λ shelf. is_of l.layer l.grid shelf ≡ false) (take l.s l.shelves) }
