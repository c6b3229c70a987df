use Rattle.std.proofs.Common.{◌≡◌, ◌∙◌, ap, subst, sym}
use Rattle.job_board.specs.Calls.{IsFirstBoardPass}
use Rattle.server_workers.proofs.Crews.{popped}
use Rattle.server_workers.proofs.crew.crew_of.Goals as goal

pub returns-clause-new : goal.returns-clause-new
returns-clause-new g c = λ s charter supplies.
    let had = c.in_ok-workers.ensures.new s supplies in
    let p = popped (λ p. p ≡ s.first) c.workers_of.new.supplies.passes.items c.pop.new.self.items c.in-Some.upkeep c.in-Some.ensures.items had.1.passes_are in
    let b = popped (IsFirstBoardPass s.board) c.workers_of.new.supplies.boards.items c.pop-2.new.self.items c.in-Some-pop.board c.in-Some-pop.ensures.items had.1.boards_are in
    let k = popped (IsFirstBoardPass s.board) c.pop-2.new.self.items c.pop-3.new.self.items c.in-Some-pop-2.canceller c.in-Some-pop-2.ensures.items b.0 in
    let join = c.in_ok-runner.ensures.join s.first.table s.catalogue s.first.told
    (λ k d lt. record { same_table = ap (λ p. p.table) (p.0 k d lt); charter = ap (λ p. p.charter) (p.0 k d lt) ∙ charter })
    (λ k d lt. ap (λ p. p.told) (p.0 k d lt)) had.1.sources_tell in
    (had.0, p.1, record { at_board = subst (IsFirstBoardPass s.board) (sym c.in_ok-runner.ensures.board) b.1; members = join; nothing = c.in_ok-runner.ensures.first s.first p.0 }, k.1)
