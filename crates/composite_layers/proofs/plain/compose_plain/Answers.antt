use Rattle.std.proofs.Common.{refl}
use Rattle.source_render.specs.Renders.{renders}
use Rattle.composite_layers.specs.OverAccess.{moment_of}
use Rattle.composite_layers.specs.Parts.{place_of}
use Rattle.composite_layers.proofs.LoneParts.{composes_so}
use Rattle.composite_layers.proofs.plain.compose_plain.Goals as goal

pub returns-clause-composes : goal.returns-clause-composes
returns-clause-composes g c =
    let K = g.C.Keeper in
    let S = g.S.Source in
    let x = c.args.cabinet.now in
    composes_so K.state K.faults (S.told c.args.source.now) (K.state x).catalogue (place_of c.args.recipe.now.grid c.args.z c.args.row c.args.col) c.laws_of_lone_threads.ensures.gets
    (moment_of x (renders (S.faults c.args.source.now) (S.gave c.args.source.now))) c.args.recipe.now.parts.items c.compose.result (moment_of c.compose.new.cache (renders (S.faults c.compose.new.source) (S.gave c.compose.new.source))) refl c.requires.rest c.compose.ensures.composes
