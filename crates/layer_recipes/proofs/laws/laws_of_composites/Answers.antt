use Rattle.layer_recipes.proofs.Told.{told_composite}
use Rattle.layer_recipes.proofs.laws.laws_of_composites.Goals as goal

pub returns : goal.returns
returns c = told_composite
