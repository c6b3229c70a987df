use Rattle.std.proofs.Common.{arith}
use Rattle.window_request.proofs.Padding.{ten_units, rest_small, pads_step}
use Rattle.window_request.proofs.decimal.pad.Goals as goal

pub digit-requires-clause-small : goal.digit-requires-clause-small
digit-requires-clause-small c = omega (arith, ten_units c.args.count c.digits.i c.power-unit.result c.digits-test.true c.power-unit.ensures.value, c.digits.invariant.small)

pub digits-preserved : goal.digits-preserved
digits-preserved c = record {
  small = rest_small c.args.count c.digits.i c.power-unit.result c.digits.rest c.power-unit.ensures.some c.power-unit.ensures.value;
  pads = pads_step c.args.into.now.items c.args.number c.args.count c.digits.i c.power-unit.result c.digits.rest c.digit.result c.digits.into.items _ c.digits-test.true c.power-unit.ensures.value c.power-unit.ensures.some c.digits.invariant.small c.digits.invariant.pads c.digit.ensures c.in_ok-push.ensures.items;
}
