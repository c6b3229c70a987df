use Rattle.std.proofs.Common.{sym, subst}
use Rattle.composite_layers.specs.Composes.{Composes}
use Rattle.composite_layers.specs.Parts.{moment}
use Rattle.layer_recipes.specs.declared.place.TilePlace.{TilePlace}
use Rattle.layer_recipes.specs.OfCatalogue.{IsPlaceIn}
use Rattle.compose_words.proofs.Leaving.{composes_few, composes_goes, composes_rose, place_same}
use Rattle.compose_words.proofs.line.compose_at.Goals as goal

pub compose_plain-requires-clause-place : goal.compose_plain-requires-clause-place
compose_plain-requires-clause-place g c = subst (λ (p : TilePlace). IsPlaceIn c.args.cabinet.now.catalogue p) (sym (place_same c.args.place.now c.args.recipe.now.grid c.requires.grid)) c.requires.place

pub returns-clause-composes : goal.returns-clause-composes
returns-clause-composes g c =
    subst (λ (p : TilePlace). Composes (g.S.Source.told c.args.source.now) p (moment c.args.cabinet.now (g.S.Source.faults c.args.source.now) 0) c.args.recipe.now.parts.items c.compose_plain.result (moment c.compose_plain.new.cabinet (g.S.Source.faults c.compose_plain.new.source) 0))
    (place_same c.args.place.now c.args.recipe.now.grid c.requires.grid) c.compose_plain.ensures.composes

pub returns-clause-few : goal.returns-clause-few
returns-clause-few g c = composes_few _ _ _ _ _ _ c.compose_plain.ensures.composes c.requires.recipe.few

pub returns-clause-cause : goal.returns-clause-cause
returns-clause-cause g c = composes_rose _ _ _ _ _ _ c.compose_plain.ensures.composes c.requires.rest

pub returns-clause-goes : goal.returns-clause-goes
returns-clause-goes g c = composes_goes _ _ _ _ _ _ c.compose_plain.ensures.composes c.requires.rest
