use Rattle.std.proofs.Common.{arith, length-append, ℕ, List, ◌++◌, sym, subst}
use Rattle.http_answer.specs.Reading.{IsAt}
use Rattle.http_answer.proofs.MoreBytes.{at_more, held_all}
use Rattle.http_answer.proofs.answer.HttpAnswer.take.Goals as goal

pub go_on-requires : goal.go_on-requires
go_on-requires c =
    let came = c.requires.0 in
    (came ++ c.args.piece.now, subst (λ (l : List ℕ). IsAt l c.args.self.stage (came ++ c.args.piece.now)) (sym c.in-Ok.ensures.items) (at_more c.args.self.bytes.items came c.args.piece.now c.args.self.stage c.requires.1.at))

pub returns-in-Ok-go_on : goal.returns-in-Ok-go_on
returns-in-Ok-go_on c came reading = (
  omega (arith, c.len.ensures, c.if-len-piece.false, held_all c.args.self.bytes.items came c.args.self.stage reading.at, length-append came c.args.piece.now),
  c.in-Ok-go_on.ensures (came ++ c.args.piece.now) (subst (λ (l : List ℕ). IsAt l c.args.self.stage (came ++ c.args.piece.now)) (sym c.in-Ok.ensures.items) (at_more c.args.self.bytes.items came c.args.piece.now c.args.self.stage reading.at)),
)

pub returns-in-Err : goal.returns-in-Err
returns-in-Err c came reading =
    c.in-Err.ensures (came ++ c.args.piece.now) (subst (λ (l : List ℕ). IsAt l c.args.self.stage (came ++ c.args.piece.now)) (sym c.in-Ok.ensures.items) (at_more c.args.self.bytes.items came c.args.piece.now c.args.self.stage reading.at))
