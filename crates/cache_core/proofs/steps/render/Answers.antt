use Rattle.std.proofs.Common.{rules}
use Rattle.cache_core.proofs.Endings.{failed_on, painted_on}
use Rattle.cache_core.proofs.steps.render.Goals as goal

pub returns-in-Ok-clause-advances : goal.returns-in-Ok-clause-advances
returns-in-Ok-clause-advances g c =
    let x = c.in-Ok.field-0 in
    painted_on (g.S.Source.told c.args.source.now) (g.S.Source.faults c.args.source.now) (g.S.Source.faults c.paint.new.source) (g.C.Keeper.faults c.args.cabinet.now) c.paint.ensures.later
    (g.C.Keeper.state c.args.cabinet.now) c.args.ticket c.args.address.now x.blob x.bytes c.goes_on.result c.requires (search rules) (search rules) (search rules) (search rules) (search rules)

pub returns-in-Err-Memory-clause-advances : goal.returns-in-Err-Memory-clause-advances
returns-in-Err-Memory-clause-advances g c = c.run_out.ensures.advances (g.S.Source.told c.args.source.now) (g.S.Source.faults c.args.source.now) (g.S.Source.faults c.paint.new.source) c.paint.ensures.later

pub returns-in-Err-Source-clause-advances : goal.returns-in-Err-Source-clause-advances
returns-in-Err-Source-clause-advances g c =
    let x = c.in-Err-Source in
    failed_on (g.S.Source.told c.args.source.now) (g.S.Source.faults c.args.source.now) (g.S.Source.faults c.paint.new.source) (g.C.Keeper.faults c.args.cabinet.now) c.paint.ensures.later
    (search rules) (g.C.Keeper.state c.args.cabinet.now) c.args.ticket c.args.address.now c.goes_on-in-Err-Source.result (search rules) (search rules)
