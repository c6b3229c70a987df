use Rattle.std.proofs.Common.{rules, arith}
use Rattle.job_board.proofs.Moves.{reports_unkept_as}
use Rattle.job_board.proofs.counts.SheetCounts.report_unkept.Goals as goal

pub fetch_add-requires : goal.fetch_add-requires
fetch_add-requires c =
    let sized = c.args.self.now.sized in
    let keyed = c.args.self.now.keyed in
    let bounded = c.args.self.now.bounded in
    (search rules, omega arith, reports_unkept_as c.args.self.now.table.shared.key (omega arith) (omega arith) _ _ _ c.requires.live c.requires.hand c.requires.unreported)
