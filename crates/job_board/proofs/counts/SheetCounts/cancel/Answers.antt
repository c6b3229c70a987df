use Rattle.std.proofs.Common.{rules, arith}
use Rattle.job_board.proofs.Moves.{cancels_as}
use Rattle.job_board.proofs.counts.SheetCounts.cancel.Goals as goal

pub fetch_or-requires : goal.fetch_or-requires
fetch_or-requires c =
    let sized = c.args.self.now.sized in
    let keyed = c.args.self.now.keyed in
    let bounded = c.args.self.now.bounded in
    (search rules, omega arith, cancels_as c.args.self.now.table.shared.key (omega arith) (omega arith) _ _ _ c.requires.live)
