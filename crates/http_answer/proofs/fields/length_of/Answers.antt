use Rattle.std.proofs.Common.{arith, sym, get_or}
use Rattle.http_answer.proofs.Lengths.{value_more, digits_more, bound_more, small_power, digit_range}
use Rattle.http_answer.proofs.fields.length_of.Goals as goal

pub overflow_mul-number : goal.overflow_mul-number
overflow_mul-number c = omega (arith, c.loop-digit.invariant.bound, small_power c.loop-digit.digit-index (omega arith))

pub overflow_add-number : goal.overflow_add-number
overflow_add-number c = omega (arith, c.loop-digit.invariant.bound, small_power c.loop-digit.digit-index (omega arith), digit_range (get_or c.args.text.now c.loop-digit.digit-index 0) (sym c.if-not-is_ascii_digit.ensures.value))

pub loop-digit-preserved : goal.loop-digit-preserved
loop-digit-preserved c =
    let is = sym c.if-not-is_ascii_digit.ensures.value in
    rw c.from.ensures record {
      digits = digits_more _ _ c.loop-digit-test.true is c.loop-digit.invariant.digits;
      value = value_more _ _ _ c.loop-digit-test.true is c.loop-digit.invariant.value;
      bound = bound_more _ _ _ is c.loop-digit.invariant.bound;
    }
