use Rattle.std.proofs.Common.{rules, refl, arith}
use Rattle.job_board.specs.Views.{claim_word}
use Rattle.job_board.proofs.Moves.{heard_by, reads_as}
use Rattle.job_board.proofs.Cuts.{hears_of}
use Rattle.job_board.proofs.counts.SheetCounts.hear.Goals as goal

pub join_seat-requires : goal.join_seat-requires
join_seat-requires c =
    let sized = c.args.self.now.sized in
    (search rules, search rules, search rules, omega arith, hears_of c.args.self.now.table.shared.key _ _ _ _)

pub load-requires : goal.load-requires
load-requires c =
    let sized = c.args.self.now.sized in
    let keyed = c.args.self.now.keyed in
    let bounded = c.args.self.now.bounded in
    (search rules, omega arith, reads_as c.args.self.now.table.shared.key (omega arith) (omega arith) _ _ _ (rw c.join_seat.ensures.2 c.requires.live) 0 claim_word (λ _. refl))

pub returns-clause-heard : goal.returns-clause-heard
returns-clause-heard c = heard_by _ c.join_seat.new.seat.me _ _ claim_word _ c.join_seat.ensures.2 c.load.ensures.2
