use Rattle.metatile_plan.proofs.Places.{span_within}
use Rattle.metatile_plan.proofs.spans.tile_span_in_blob.Goals as goal

pub returns-clause-inside : goal.returns-clause-inside
returns-clause-inside c =
    rw (c.tiles_of-tiles.ensures.range, c.tile_len-length.ensures.value) (span_within c.args.f.now c.args.m.now c.args.meta.now c.args.row c.args.col c.requires.tile)
