use Rattle.std.proofs.Common.{arith, ap, []}
use Rattle.crossbeam_queue.specs.Passes.{view}
use Rattle.link_queue.specs.Hands.{hand}
use Rattle.server_workers.specs.Crew.{HasHeldSessions}
use Rattle.server_workers.specs.Stints.{Service, serving}
use Rattle.server_workers.proofs.Crews.{one_longer, popped}
use Rattle.server_workers.proofs.Gathering.{all_served, gathers_put}
use Rattle.server_workers.proofs.Hearing.{ready_heard}
use Rattle.server_workers.proofs.ending.serve_rest.Goals as goal

pub returns-clause-served : goal.returns-clause-served
returns-clause-served g c = λ first all.
    let s : Service g.row.L.Denot g.row.S.Denot = serving g.L.ByteSource.left g.L.ByteSink.taken g.L.ByteSource.faults g.L.ByteSink.faults g.S.Source.faults g.S.Source.gave c.args.world.now.capabilities c.args.world.now.hall.catalogue c.args.world.now.recipes c.args.world.now.board.turnstile.table first in
    let mine = view c.args.mine in
    let w = popped (λ w. HasHeldSessions s (hand 1 [] []) w.pass w.board w.source w.hand) c.args.workers.items c.pop.new.self.items c.in-Some.last c.in-Some.ensures.items all in
    let gathered = c.gather.ensures.gathered s w.1 w.0 in
    let over = gathers_put s _ mine.parts mine.put _ _ _ c.gather.new.last.hand c.args.mine c.take_over.new.mine _ _ _ gathered (ap (hand mine.parts mine.put) c.requires.none) c.take_over.ensures.knows in
    let worked = c.work.ensures.worked first _ over in
    let count = one_longer _ _ _ c.in-Some.ensures.items in
    let parts = ap (λ v. v.parts) worked.took in
    rw c.push_reserved.ensures.items (all_served s _ mine.put gathered.stints _ _ _ c.work.new.worker.hand c.gather.new.passes.items c.args.runner.now c.gather.new.runner c.hear.new.self gathered.held gathered.kept gathered.heard worked (c.work.ensures.all (omega (arith, parts, count, c.requires.parts))) c.hear.ensures.heard)

pub returns-clause-runner : goal.returns-clause-runner
returns-clause-runner g c = ready_heard _ _ _ c.gather.new.runner c.hear.new.self _ c.gather.ensures.runner c.hear.ensures.heard
