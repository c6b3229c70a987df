use Rattle.std.proofs.Common.{rules, refl, arith}
use Rattle.job_board.specs.Views.{done_word}
use Rattle.job_board.proofs.Moves.{reads_as}
use Rattle.job_board.proofs.counts.SheetCounts.read_done.Goals as goal

pub load-requires : goal.load-requires
load-requires c =
    let sized = c.args.self.now.sized in
    let keyed = c.args.self.now.keyed in
    let bounded = c.args.self.now.bounded in
    (search rules, omega arith, reads_as c.args.self.now.table.shared.key (omega arith) (omega arith) _ _ _ c.requires.live 1 done_word (λ _. refl))
