use Rattle.cabinet_chest.proofs.Numbering.{all_covering, answered_below, older_below}
use Rattle.cabinet_chest.proofs.laws.laws_of_numbers.Goals as goal

pub returns : goal.returns
returns c = record {
  all = all_covering;
  above = λ c book a k cut valid tile above for covered. answered_below c a valid tile book k cut above for covered;
  older = λ c book older a k cut valid tile above answers for covered. older_below c a valid tile book older k cut above answers for covered;
}
