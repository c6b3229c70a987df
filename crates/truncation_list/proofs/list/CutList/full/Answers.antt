use Rattle.std.proofs.Common.{arith, ap, Some, length}
use Rattle.truncation_list.specs.Listed.{Listed}
use Rattle.truncation_list.proofs.Remaining.{no_more_remain}
use Rattle.truncation_list.proofs.list.CutList.full.Goals as goal

pub returns-then-len-limit : goal.returns-then-len-limit
returns-then-len-limit c =
    let long = ap (λ (l : Listed). length l.book.cuts) c.self.view_is in
    let few = no_more_remain (Some c.args.cover.now) c.args.least c.args.self.now.book.cuts in
    (λ t. absurd (cc), λ enough. absurd (omega (arith, long, few, enough)))
