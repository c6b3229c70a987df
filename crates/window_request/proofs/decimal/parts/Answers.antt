use Rattle.window_request.proofs.Padding.{whole_small}
use Rattle.std.proofs.Common.{arith}
use Rattle.window_request.proofs.decimal.parts.Goals as goal

pub overflow_cast-result : goal.overflow_cast-result
overflow_cast-result c = omega (arith, whole_small c.args.units c.args.places c.from-unit.result (omega (arith, c.from-unit.ensures, c.power.ensures.value)) (omega (arith, c.from-unit.ensures, c.power.ensures.some)) c.requires.size)

pub returns-clause-whole : goal.returns-clause-whole
returns-clause-whole c = whole_small c.args.units c.args.places c.from-unit.result (omega (arith, c.from-unit.ensures, c.power.ensures.value)) (omega (arith, c.from-unit.ensures, c.power.ensures.some)) c.requires.size
