use Rattle.std.proofs.Common.{rules, arith}
use Rattle.job_board.proofs.Cuts.{deals_of}
use Rattle.job_board.proofs.counts.SheetCounts.deal.Goals as goal

pub split_seat-requires : goal.split_seat-requires
split_seat-requires c =
    let sized = c.args.self.now.sized in
    (search rules, omega arith, deals_of c.args.self.now.table.shared.key _ _ c.requires.some.0 c.requires.some.1)
