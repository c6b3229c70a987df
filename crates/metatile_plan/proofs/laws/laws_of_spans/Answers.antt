use Rattle.metatile_plan.proofs.Places.{last_ends}
use Rattle.metatile_plan.proofs.laws.laws_of_spans.Goals as goal

pub returns-clause-last : goal.returns-clause-last
returns-clause-last c = last_ends
