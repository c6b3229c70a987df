use Rattle.truncation_list.proofs.Boxes.{outer_covers}
use Rattle.truncation_list.proofs.Containment.{contains_itself, contains_through}
use Rattle.truncation_list.proofs.laws.laws_of_containment.Goals as goal

pub returns : goal.returns
returns c = record { itself = contains_itself; transitive = contains_through; covers = outer_covers }
