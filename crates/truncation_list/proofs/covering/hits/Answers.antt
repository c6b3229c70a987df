use Rattle.std.proofs.Common.{◌≡◌, rules}
use Rattle.truncation_list.specs.Covers.{hits}
use Rattle.truncation_list.proofs.Tiles.{hits_is}
use Rattle.truncation_list.proofs.covering.hits.Goals as goal

pub returns-then-meets_bounds-clause-tiles : goal.returns-then-meets_bounds-clause-tiles
returns-then-meets_bounds-clause-tiles c =
    let same : c.admits.result ≡ hits c.args.cover.now c.args.m.now c.args.block.now = search rules in
    rw same (hits_is c.args.cover.now c.args.m.now c.args.block.now)

pub returns-else-meets_bounds-clause-tiles : goal.returns-else-meets_bounds-clause-tiles
returns-else-meets_bounds-clause-tiles c =
    let same : c.if-is_in_zoom.value ≡ hits c.args.cover.now c.args.m.now c.args.block.now = search rules in
    rw same (hits_is c.args.cover.now c.args.m.now c.args.block.now)
