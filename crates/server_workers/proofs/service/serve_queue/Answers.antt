use Rattle.std.proofs.Common.{All, ap, subst, ◌∙◌}
use Rattle.cache_hall.specs.Turned.{HallPass}
use Rattle.seed_jobs.specs.Idles.{MayJoin}
use Rattle.server_workers.specs.Stints.{Service, serving}
use Rattle.server_workers.specs.Upkept.{IsKeptUpBy}
use Rattle.server_workers.proofs.Holding.{new_has_worked, new_is_ready}
use Rattle.server_workers.proofs.service.serve_queue.Goals as goal

pub serve_links-requires-clause-ready : goal.serve_links-requires-clause-ready
serve_links-requires-clause-ready g c κs within = λ k d lt.
    let had = c.requires.supplied in
    let s : Service g.row.N-L.Denot g.row.S.Denot = serving g.N.L.ByteSource.left g.N.L.ByteSink.taken g.N.L.ByteSource.faults g.N.L.ByteSink.faults g.S.Source.faults g.S.Source.gave c.args.world.now.capabilities c.args.world.now.hall.catalogue c.args.world.now.recipes c.args.world.now.board.turnstile.table had.first in
    new_is_ready s _ _ _ _ _ _ had.of had.charter ((c.in_ok-crew.ensures.new s had.charter had.supplies).0 k d lt)

pub serve_links-requires-clause-upkeep : goal.serve_links-requires-clause-upkeep
serve_links-requires-clause-upkeep g c κs within =
    let had = c.requires.supplied in
    let s : Service g.row.N-L.Denot g.row.S.Denot = serving g.N.L.ByteSource.left g.N.L.ByteSink.taken g.N.L.ByteSource.faults g.N.L.ByteSink.faults g.S.Source.faults g.S.Source.gave c.args.world.now.capabilities c.args.world.now.hall.catalogue c.args.world.now.recipes c.args.world.now.board.turnstile.table had.first in
    let new = c.in_ok-crew.ensures.new s had.charter had.supplies in
    record { same_table = ap (λ p. p.table) new.1 ∙ had.of; charter = ap (λ p. p.charter) new.1 ∙ had.charter }

pub serve_links-requires-clause-runner : goal.serve_links-requires-clause-runner
serve_links-requires-clause-runner g c κs within =
    let had = c.requires.supplied in
    let s : Service g.row.N-L.Denot g.row.S.Denot = serving g.N.L.ByteSource.left g.N.L.ByteSink.taken g.N.L.ByteSource.faults g.N.L.ByteSink.faults g.S.Source.faults g.S.Source.gave c.args.world.now.capabilities c.args.world.now.hall.catalogue c.args.world.now.recipes c.args.world.now.board.turnstile.table had.first in
    let new = c.in_ok-crew.ensures.new s had.charter had.supplies in
    record { of_board = new.2.at_board.of; idle = subst (λ t. All (MayJoin t c.args.world.now.hall.catalogue) c.in_ok-crew.crew.runner.idle) had.of new.2.members }

pub serve_links-requires-clause-place : goal.serve_links-requires-clause-place
serve_links-requires-clause-place g c κs within =
    let had = c.requires.supplied in
    let s : Service g.row.N-L.Denot g.row.S.Denot = serving g.N.L.ByteSource.left g.N.L.ByteSink.taken g.N.L.ByteSource.faults g.N.L.ByteSink.faults g.S.Source.faults g.S.Source.gave c.args.world.now.capabilities c.args.world.now.hall.catalogue c.args.world.now.recipes c.args.world.now.board.turnstile.table had.first in
    (c.in_ok-crew.ensures.new s had.charter had.supplies).3.of

pub returns-clause-served : goal.returns-clause-served
returns-clause-served g c = λ first charter supplies.
    let s : Service g.row.N-L.Denot g.row.S.Denot = serving g.N.L.ByteSource.left g.N.L.ByteSink.taken g.N.L.ByteSource.faults g.N.L.ByteSink.faults g.S.Source.faults g.S.Source.gave c.args.world.now.capabilities c.args.world.now.hall.catalogue c.args.world.now.recipes c.args.world.now.board.turnstile.table first in
    let new = c.in_ok-crew.ensures.new s charter supplies in
    let done = c.serve_links.ensures.served in
    record {
      before = c.in_ok-crew.crew.runner;
      new = new.2;
      on = done.0;
      among = done.2;
      sources = done.3;
      upkeep = subst (λ (p : HallPass). IsKeptUpBy c.args.world.now.hall.catalogue p c.serve_links.result.passes.items) new.1 c.serve_links.ensures.upkeep;
      canceller = c.in_ok-crew.crew.canceller;
      place = new.3;
      cancels = done.1;
      links = done.4 first (λ k d lt. new_has_worked s _ _ _ _ _ _ (new.0 k d lt));
    }
