use Rattle.std.proofs.Common.{List}
use Rattle.cabinet_chest.specs.declared.shown.Note.{Note}
use Rattle.source_render.specs.Renders.{renders}
use Rattle.source_render.proofs.Staying.{stays_itself}
use Rattle.turnstile.specs.declared.view.Made.{Made}
use Rattle.composite_layers.specs.OverAccess.{moment_of}
use Rattle.composite_layers.specs.Parts.{place_of}
use Rattle.composite_layers.proofs.Composing.{composes_nothing, composes_of, composes_stopped, turns_answer}
use Rattle.composite_layers.proofs.over_access.compose.Goals as goal

pub returns-in-Err-clause-composes : goal.returns-in-Err-clause-composes
returns-in-Err-clause-composes g c =
    let A = g.A.Access in
    let S = g.S.Source in
    let way = c.args.access.now in
    let x = c.args.cache.now in
    composes_nothing (A.gains way) (A.sound way) (A.seen way) (S.told c.args.source.now) (A.catalogue way x) (place_of c.args.recipe.now.grid c.args.z c.args.row c.args.col) (A.gains_none way) (A.gains_on way)
    (moment_of x (renders (S.faults c.args.source.now) (S.gave c.args.source.now))) c.args.recipe.now.parts.items

pub returns-in-Err-with_capacity-clause-composes : goal.returns-in-Err-with_capacity-clause-composes
returns-in-Err-with_capacity-clause-composes g c =
    let A = g.A.Access in
    let S = g.S.Source in
    let way = c.args.access.now in
    let x = c.args.cache.now in
    composes_nothing (A.gains way) (A.sound way) (A.seen way) (S.told c.args.source.now) (A.catalogue way x) (place_of c.args.recipe.now.grid c.args.z c.args.row c.args.col) (A.gains_none way) (A.gains_on way)
    (moment_of x (renders (S.faults c.args.source.now) (S.gave c.args.source.now))) c.args.recipe.now.parts.items

pub returns-in-Ok-lay_parts-clause-composes : goal.returns-in-Ok-lay_parts-clause-composes
returns-in-Ok-lay_parts-clause-composes g c =
    let A = g.A.Access in
    let S = g.S.Source in
    let way = c.args.access.now in
    let x = c.args.cache.now in
    let d = A.catalogue way x in
    let place = place_of c.args.recipe.now.grid c.args.z c.args.row c.args.col in
    let matrix = rw c.catalogue.ensures at c.matrix.ensures.matrix in
    composes_of (A.gains way) (A.sound way) (A.seen way) (S.told c.args.source.now) d place (A.gains_none way) (A.gains_on way)
    (λ y z (gained : List (Made Note)) lead. turns_answer (A.catalogue way y) (A.seen way y) (A.seen way z) gained (A.are_turns way y z gained lead))
    (moment_of x (renders (S.faults c.args.source.now) (S.gave c.args.source.now))) (moment_of c.lay_parts.new.cache (renders (S.faults c.lay_parts.new.source) (S.gave c.lay_parts.new.source))) c.args.recipe.now.parts.items c.matrix.result.now c.in-Ok.overlay c.lay_parts.new.overlay
    (record { numbers = c.lay_parts.new.numbers; bytes = c.into_text.result })
    (λ parts numbers. c.laws_of_composites.ensures d place c.matrix.result.now parts numbers matrix)
    matrix c.in-Ok.ensures.matrix (rw c.as_slice-parts.ensures.value at c.in-Ok-lay_parts.ensures.lays) c.into_text.ensures

pub returns-in-Err-lay_parts-clause-composes : goal.returns-in-Err-lay_parts-clause-composes
returns-in-Err-lay_parts-clause-composes g c =
    let A = g.A.Access in
    let S = g.S.Source in
    let way = c.args.access.now in
    let x = c.args.cache.now in
    composes_stopped (A.gains way) (A.sound way) (A.seen way) (S.told c.args.source.now) (A.catalogue way x) (place_of c.args.recipe.now.grid c.args.z c.args.row c.args.col) (A.gains_none way) (A.gains_on way)
    (moment_of x (renders (S.faults c.args.source.now) (S.gave c.args.source.now))) (moment_of c.lay_parts.new.cache (renders (S.faults c.lay_parts.new.source) (S.gave c.lay_parts.new.source))) c.args.recipe.now.parts.items c.in-Err-lay_parts.stop (rw c.as_slice-parts.ensures.value at c.in-Err-lay_parts.ensures.lays)

pub returns-in-Err-clause-grows : goal.returns-in-Err-clause-grows
returns-in-Err-clause-grows g c = stays_itself (g.S.Source.gave c.args.source.now)

pub returns-in-Err-with_capacity-clause-grows : goal.returns-in-Err-with_capacity-clause-grows
returns-in-Err-with_capacity-clause-grows g c = stays_itself (g.S.Source.gave c.args.source.now)
