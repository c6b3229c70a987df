use Rattle.std.proofs.Common.{◌-◌, ◌≤◌, length, arith}
use Rattle.http_answer.proofs.Told.{counted_whole}
use Rattle.http_answer.proofs.stage.body_of_count.Goals as goal

pub returns : goal.returns
returns c came at =
    let whole : c.args.size ≤ length c.args.bytes.items - c.args.start = omega (arith, c.len.ensures, c.if-len-start.false) in
    counted_whole c.args.bytes.items came c.part.result.items c.args.start c.args.size at whole c.part.ensures
