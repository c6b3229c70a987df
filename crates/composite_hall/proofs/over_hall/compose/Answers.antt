use Rattle.source_render.specs.Renders.{renders}
use Rattle.composite_layers.specs.OverAccess.{moment_of}
use Rattle.composite_layers.specs.Parts.{place_of}
use Rattle.composite_hall.proofs.ByPass.{composes_so}
use Rattle.composite_hall.proofs.over_hall.compose.Goals as goal

pub returns-clause-composes : goal.returns-clause-composes
returns-clause-composes g c =
    let S = g.S.Source in
    composes_so (S.told c.args.source.now) c.args.hall.now.catalogue (place_of c.args.recipe.now.grid c.args.z c.args.row c.args.col)
    (moment_of c.args.pass.now (renders (S.faults c.args.source.now) (S.gave c.args.source.now))) c.args.recipe.now.parts.items c.compose.result (moment_of c.compose.new.cache (renders (S.faults c.compose.new.source) (S.gave c.compose.new.source))) c.requires.source c.compose.ensures.composes
