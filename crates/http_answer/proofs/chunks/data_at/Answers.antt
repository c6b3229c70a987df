use Rattle.std.proofs.Common.{inl, inr, ◌+◌, ◌≤◌, length, drop, arith}
use Rattle.std.proofs.lemmas.List.{length-drop}
use Rattle.http_answer.proofs.LineEnds.{no_line_end}
use Rattle.http_answer.proofs.chunks.data_at.Goals as goal

pub returns : goal.returns
returns c =
    let bytes = c.args.bytes.now in
    let whole : c.args.size + 2 ≤ length (drop c.args.at bytes) = omega (arith, length-drop c.args.at bytes, c.if-left-size.false, c.if-left-lt2.false) in
    inr (inl (c.args.size, drop c.args.at bytes, c.requires.line.line, c.requires.some, whole, no_line_end bytes c.args.at c.args.size c.if-ends_line.ensures))
