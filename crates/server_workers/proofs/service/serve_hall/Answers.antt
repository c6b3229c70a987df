use Rattle.std.proofs.Common.{refl, arith}
use Rattle.cache_hall.specs.Turned.{HallPass}
use Rattle.server_workers.specs.Stints.{Service, serving}
use Rattle.server_workers.proofs.Closing.{all_over, some_over}
use Rattle.server_workers.proofs.Supplied.{is_that}
use Rattle.server_workers.proofs.service.serve_hall.Goals as goal

pub returns-then-all : goal.returns-then-all
returns-then-all g c = λ first supplies.
    let service : HallPass → Service g.row.N-L.Denot g.row.S.Denot = serving g.N.L.ByteSource.left g.N.L.ByteSink.taken g.N.L.ByteSource.faults g.N.L.ByteSink.faults g.S.Source.faults g.S.Source.gave c.args.stage.world.capabilities c.args.stage.world.hall.catalogue c.args.stage.world.recipes c.args.stage.world.board.turnstile.table in
    let is = is_that _ service g.S.Source.told _ _ _ first (λ p. refl) (omega (arith, c.requires.count.0)) c.requires.supplied supplies in
    all_over (service first) _ _ _ c.requires.valid is.1 (c.in-Ok.ensures.served first is.0 supplies) c.close.ensures c.if-all.true

pub returns-else-all : goal.returns-else-all
returns-else-all g c = λ first supplies.
    let service : HallPass → Service g.row.N-L.Denot g.row.S.Denot = serving g.N.L.ByteSource.left g.N.L.ByteSink.taken g.N.L.ByteSource.faults g.N.L.ByteSink.faults g.S.Source.faults g.S.Source.gave c.args.stage.world.capabilities c.args.stage.world.hall.catalogue c.args.stage.world.recipes c.args.stage.world.board.turnstile.table in
    let is = is_that _ service g.S.Source.told _ _ _ first (λ p. refl) (omega (arith, c.requires.count.0)) c.requires.supplied supplies in
    some_over (service first) _ _ _ c.requires.valid is.1 (c.in-Ok.ensures.served first is.0 supplies) c.close.ensures c.if-all.false
