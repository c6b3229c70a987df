use Rattle.std.proofs.Common.{◌∙◌, arith}
use Rattle.extent_map.proofs.Passed.{last_end_any}
use Rattle.extent_map.proofs.chunks.end_behind.Goals as goal

pub returns-else-len-eq0 : goal.returns-else-len-eq0
returns-else-len-eq0 c =
    let long = c.len.ensures.len in let some = c.if-len-eq0.false in
    c.end.ensures ∙ last_end_any 0 c.args.place c.args.chunk.now (omega arith)
