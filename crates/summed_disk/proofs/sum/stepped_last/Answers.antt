use Rattle.std.proofs.Common.{◌≡◌, ◌+◌, ◌∙◌, ap, arith}
use Rattle.summed_disk.specs.Sum.{step, word}
use Rattle.summed_disk.proofs.Words.{word_past}
use Rattle.summed_disk.proofs.sum.stepped_last.Goals as goal

pub returns-clause-a : goal.returns-clause-a
returns-clause-a c =
    let e : c.args.at + 0 ≡ c.args.at = omega arith in
    c.stepped.ensures.a ∙ ap (step c.args.lanes.now.a) (word_past c.args.at 0 c.args.bytes.now c.filled_up-group.result c.filled_up-group.ensures ∙ ap (word c.args.bytes.now) e)

pub returns-clause-b : goal.returns-clause-b
returns-clause-b c = c.stepped.ensures.b ∙ ap (step c.args.lanes.now.b) (word_past c.args.at 8 c.args.bytes.now c.filled_up-group.result c.filled_up-group.ensures)

pub returns-clause-c : goal.returns-clause-c
returns-clause-c c = c.stepped.ensures.c ∙ ap (step c.args.lanes.now.c) (word_past c.args.at 16 c.args.bytes.now c.filled_up-group.result c.filled_up-group.ensures)

pub returns-clause-d : goal.returns-clause-d
returns-clause-d c = c.stepped.ensures.d ∙ ap (step c.args.lanes.now.d) (word_past c.args.at 24 c.args.bytes.now c.filled_up-group.result c.filled_up-group.ensures)
