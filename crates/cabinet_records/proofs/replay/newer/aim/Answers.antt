use Rattle.cabinet_records.proofs.AimedCuts.{zoom_on}
use Rattle.cabinet_records.proofs.replay.newer.aim.Goals as goal

pub aim-requires : goal.aim-requires
aim-requires c =
    let layout = c.layout_of-layout.result in
    let e = c.layout_of-layout.ensures in
    zoom_on c.args.catalogue.now c.args.meta.now layout.factors layout.matrix c.grid_of-grid.result.now c.zoom_of-zoom.result c.requires (c.is_meta.ensures.0 (cc (c.if-not-is_meta.false))) e.factors e.matrix c.grid_of-grid.ensures.grid c.grid_of-grid.ensures.valid c.zoom_of-zoom.ensures
