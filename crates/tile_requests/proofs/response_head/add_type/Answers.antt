use Rattle.std.proofs.Common.{arith, ◌<◌, length}
use Rattle.tile_requests.proofs.Headers.{type_header_added}
use Rattle.tile_requests.proofs.response_head.add_type.Goals as goal

pub returns-clause-items : goal.returns-clause-items
returns-clause-items c =
    let some : 0 < length c.args.body.now = grind (arith, c.if-is_empty.false) in
    type_header_added c.args.media_type.now c.args.body.now _ _ _ _ some c.add.ensures.items c.add-2.ensures.items c.add-3.ensures.items
