use Rattle.metatile_plan.proofs.Sides.{window_on}
use Rattle.metatile_plan.proofs.laws.laws_of_windows.Goals as goal

pub returns : goal.returns
returns c = window_on
