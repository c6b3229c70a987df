use Rattle.std.proofs.Common.{refl, ap}
use Rattle.source_render.specs.Renders.{renders}
use Rattle.server_workers.proofs.Holding.{ready_after, worked_once_more}
use Rattle.server_workers.proofs.workers.work.Goals as goal

pub working-preserved : goal.working-preserved
working-preserved g c =
    let i = c.working.invariant in
    let took = c.in-Some-take.ensures.taken in
    record {
      ready = ready_after _ _ _ _ _ _ _ _ _ _ _ _ _ i.ready c.serve_session.ensures.of c.serve_session.ensures.board (ap (λ p. p.told) c.serve_session.ensures.session.made) c.serve_session.ensures.told took;
      worked = λ first before had.
          worked_once_more _ before _ _ _ _ _ _
          (record {
            link = c.in-Some-take.link;
            link_after = c.serve_session.new.link;
            pass = c.working.worker.pass;
            pass_after = c.serve_session.new.pass;
            board = c.working.worker.board;
            board_after = c.serve_session.new.board;
            renders = record { before = renders (g.S.Source.faults c.working.worker.source) (g.S.Source.gave c.working.worker.source); after = renders (g.S.Source.faults c.serve_session.new.source) (g.S.Source.gave c.serve_session.new.source) };
            end = c.serve_session.result;
          })
          (i.worked first before had) took.knows refl refl refl refl c.serve_session.ensures.session;
    }
