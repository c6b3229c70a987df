use Rattle.std.proofs.Common.{rules, arith}
use Rattle.job_board.proofs.Cuts.{notes_of}
use Rattle.job_board.proofs.counts.SheetCounts.note.Goals as goal

pub split_seat-requires : goal.split_seat-requires
split_seat-requires c =
    let sized = c.args.self.now.sized in
    (search rules, omega arith, notes_of c.args.self.now.table.shared.key _ _)
