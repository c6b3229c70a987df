use Rattle.std.proofs.Common.{arith, refl, ◌≡◌, true, Some}
use Rattle.job_board.specs.Calls.{IsFirstBoardPass}
use Rattle.link_queue.specs.Hands.{table_of}
use Rattle.server_workers.specs.Crew.{IsNew}
use Rattle.server_workers.proofs.Crews.{dealt, one_longer, popped, pushed}
use Rattle.server_workers.proofs.crew.workers_of.Goals as goal

pub hiring-preserved : goal.hiring-preserved
hiring-preserved g c =
    let passes = one_longer _ _ _ c.in-Some.ensures.items in
    let boards = one_longer _ _ _ c.in-Some-pop.ensures.items in
    let sources = one_longer _ _ _ c.in-Some-pop-2.ensures.items in
    let workers = one_longer _ _ _ c.in_ok-push.ensures.items in
    let i = c.hiring.invariant in
    record {
      passes = omega (arith, passes, i.passes);
      boards = omega (arith, boards, i.boards);
      sources = omega (arith, sources, i.sources);
      workers = omega (arith, workers, i.workers);
      mine = dealt _ _ _ _ _ i.mine c.one_more-hand.ensures.mine refl;
      new = λ s supplies.
          let had = i.new s supplies in
          let p = popped (λ p. p ≡ s.first) c.hiring.supplies.passes.items c.pop.new.self.items c.in-Some.pass c.in-Some.ensures.items had.1.passes_are in
          let b = popped (IsFirstBoardPass s.board) c.hiring.supplies.boards.items c.pop-in-hiring.new.self.items c.in-Some-pop.board c.in-Some-pop.ensures.items had.1.boards_are in
          let t = popped (λ x. s.first.told ≡ true → g.S.Source.told x ≡ Some s.catalogue.source) c.hiring.supplies.sources.items c.pop-in-hiring-2.new.self.items c.in-Some-pop-2.source c.in-Some-pop-2.ensures.items had.1.sources_tell in (
            pushed (λ w. IsNew (table_of c.args.queue.now.links) s (g.S.Source.told w.source) w.pass w.board w.hand) c.push.new.self.items c.hiring.workers.items _ c.in_ok-push.ensures.items had.0
                (record { pass_is = p.1; at_board = b.1; source = t.1; hand_is = c.one_more-hand.ensures.more }),
            record { passes_are = p.0; boards_are = b.0; sources_tell = t.0 },
          );
    }
