use Rattle.std.proofs.Common.{arith}
use Rattle.wmts_rest.proofs.Matching.{taken_some, taken_none}
use Rattle.wmts_rest.proofs.table.route_at.Goals as goal

pub returns-in-Ok : goal.returns-in-Ok
returns-in-Ok c =
    taken_some c.args.router.now c.args.path.now _ c.requires (λ i. omega (arith, c.type_inv.path i)) c.in-Ok.ensures.found

pub returns-in-Err : goal.returns-in-Err
returns-in-Err c =
    taken_none c.args.router.now c.args.path.now c.requires (λ i. omega (arith, c.type_inv.path i)) c.in-Err.ensures.missing
