use Rattle.hall_sessions.proofs.Composed.{few_numbers}
use Rattle.hall_sessions.proofs.composites.serve_composition.Goals as goal

pub outcome_of_composition-requires : goal.outcome_of_composition-requires
outcome_of_composition-requires g c = few_numbers _ _ _ _ _ c.compose-composition.result _ c.requires.recipe.few c.compose-composition.ensures.composes
