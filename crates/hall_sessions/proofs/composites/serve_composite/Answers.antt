use Rattle.std.proofs.Common.{refl}
use Rattle.source_render.proofs.Staying.{stays_itself}
use Rattle.hall_sessions.proofs.Composed.{composition_served, served_at_once}
use Rattle.hall_sessions.proofs.composites.serve_composite.Goals as goal

pub returns-in-Composite-clause-serves : goal.returns-in-Composite-clause-serves
returns-in-Composite-clause-serves g c = rw c.in-Composite.is (composition_served _ _ _ _ _ _ _ _ _ _ c.recipe_at-recipe.ensures c.serve_composition.ensures.serves)

pub returns-in-Refused-clause-serves : goal.returns-in-Refused-clause-serves
returns-in-Refused-clause-serves g c = rw c.in-Refused.is (served_at_once _ _ _ _ _ _ _ (refl, refl) (λ failed. absurd (cc)))

pub returns-in-NotFound-clause-serves : goal.returns-in-NotFound-clause-serves
returns-in-NotFound-clause-serves g c = rw c.in-NotFound.is (served_at_once _ _ _ _ _ _ _ (refl, refl) (λ failed. absurd (cc)))

pub returns-in-WrongMethod-clause-serves : goal.returns-in-WrongMethod-clause-serves
returns-in-WrongMethod-clause-serves g c = rw c.in-WrongMethod.is (served_at_once _ _ _ _ _ _ _ (refl, refl) (λ failed. absurd (cc)))

pub returns-in-Refused-clause-grows : goal.returns-in-Refused-clause-grows
returns-in-Refused-clause-grows g c = stays_itself (g.S.Source.gave c.args.source.now)

pub returns-in-NotFound-clause-grows : goal.returns-in-NotFound-clause-grows
returns-in-NotFound-clause-grows g c = stays_itself (g.S.Source.gave c.args.source.now)

pub returns-in-WrongMethod-clause-grows : goal.returns-in-WrongMethod-clause-grows
returns-in-WrongMethod-clause-grows g c = stays_itself (g.S.Source.gave c.args.source.now)
