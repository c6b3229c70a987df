use Rattle.std.proofs.Common.{◌≡◌, ◌∙◌, ◌++◌, [], ap}
use Rattle.link_queue.specs.Hands.{hand}
use Rattle.server_workers.specs.Stints.{Service, serving}
use Rattle.server_workers.proofs.Crews.{pushed}
use Rattle.server_workers.proofs.Gathering.{links_served}
use Rattle.server_workers.proofs.Hearing.{ready_heard}
use Rattle.server_workers.proofs.JobTurns.{all_of_hall, idle_among}
use Rattle.server_workers.proofs.Upkept.{kept_among}
use Rattle.server_workers.proofs.serving.serve_links.Goals as goal

pub returns-clause-of : goal.returns-clause-of
returns-clause-of g c =
    let upkeep = c.accept_and_serve-all.ensures.upkeep in
    let before = c.push_reserved.new.self.items in
    let these = pushed (λ p. p.table ≡ c.args.world.now.hall.turnstile.table) before c.serve_rest-passes.result.items c.accept_and_serve-all.new.staff.crew.upkeep c.push_reserved.ensures.items c.serve_rest-passes.ensures.of upkeep.same_table in
    all_of_hall c.args.world.now.hall.turnstile.table c.args.world.now.hall.catalogue before c.into_passes.result.items c.run_jobs.new.runner.idle c.into_passes.ensures.items these c.run_jobs.ensures.ready.idle

pub returns-clause-upkeep : goal.returns-clause-upkeep
returns-clause-upkeep g c =
    kept_among c.args.world.now.hall.catalogue c.args.staff.crew.upkeep c.accept_and_serve-all.new.staff.crew.upkeep c.serve_rest-passes.result.items c.push_reserved.new.self.items c.into_passes.result.items _ c.accept_and_serve-all.ensures.keeps c.push_reserved.ensures.items c.into_passes.ensures.items

pub run_jobs-requires-clause-ready : goal.run_jobs-requires-clause-ready
run_jobs-requires-clause-ready g c κs within = ready_heard _ _ _ c.serve_rest-passes.new.runner c.hear.new.self _ c.serve_rest-passes.ensures.runner c.hear.ensures.heard

pub returns-clause-served : goal.returns-clause-served
returns-clause-served g c = (
  record {
    between = c.accept_and_serve-all.new.staff.crew.runner;
    runs = c.accept_and_serve-all.ensures.runs;
    heard = c.hear.new.self;
    after = c.run_jobs.new.runner;
    runs_on = c.run_jobs.ensures.runs;
  },
  record {
    between = c.accept_and_serve-all.new.staff.crew.canceller;
    stops = c.accept_and_serve-all.ensures.stops;
    heard = c.hear.new.other;
    hears = c.hear.ensures.told.0;
    after = c.cancel_all.new.pass;
    stops_again = c.cancel_all.ensures.stops;
  },
  idle_among c.push_reserved.new.self.items c.into_passes.result.items c.run_jobs.new.runner.idle c.into_passes.ensures.items,
  c.into_passes.ensures.sources,
  λ first all.
      let s : Service g.row.N-L.Denot g.row.S.Denot = serving g.N.L.ByteSource.left g.N.L.ByteSink.taken g.N.L.ByteSource.faults g.N.L.ByteSink.faults g.S.Source.faults g.S.Source.gave c.args.world.now.capabilities c.args.world.now.hall.catalogue c.args.world.now.recipes c.args.world.now.board.turnstile.table first in
      let a = c.accept_and_serve-all.ensures.accepted in
      let worked = c.accept_and_serve-all.ensures.worked first (hand 1 [] []) all in
      let put = ap (λ v. v.put) a.put.knows ∙ ap (λ v. v.put ++ a.links) c.requires.acceptor.knows in
      links_served s _ _ _ a.links _ _ _ c.serve_rest-passes.result.items c.push_reserved.new.self.items c.into_passes.result.items _ c.accept_and_serve-all.new.staff.crew.upkeep c.accept_and_serve-all.new.staff.crew.runner c.serve_rest-passes.new.runner c.hear.new.self _ c.hear.new.other _
      put c.push_reserved.ensures.items c.into_passes.ensures.items (c.serve_rest-passes.ensures.served first worked) c.hear.ensures.heard c.hear.ensures.told.1 a.given a.each,
)
