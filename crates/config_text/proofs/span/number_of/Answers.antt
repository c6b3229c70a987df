use Rattle.std.proofs.Common.{◌+◌, arith}
use Rattle.exact_ratio.proofs.Numbers.{number_goes_on, number_small, tens_least}
use Rattle.config_text.proofs.Digits.{digit_at}
use Rattle.config_text.proofs.span.number_of.Goals as goal

pub overflow_sub-digit : goal.overflow_sub-digit
overflow_sub-digit c = omega (arith, digit_at c.args.digits.now c.requires.digits c.loop-digit.digit-index c.loop-digit-test.true)

pub overflow_mul-all : goal.overflow_mul-all
overflow_mul-all c = omega (arith, tens_least (0 + c.loop-digit.digit-index) 23 (omega arith))

pub overflow_add-all : goal.overflow_add-all
overflow_add-all c =
    omega (arith, tens_least (0 + c.loop-digit.digit-index) 23 (omega arith), digit_at c.args.digits.now c.requires.digits c.loop-digit.digit-index c.loop-digit-test.true)

pub loop-digit-preserved : goal.loop-digit-preserved
loop-digit-preserved c =
    let digit = digit_at c.args.digits.now c.requires.digits c.loop-digit.digit-index c.loop-digit-test.true in
    rw c.from.ensures record {
      value = number_goes_on c.args.digits.now c.loop-digit.digit-index c.loop-digit.all _ c.loop-digit-test.true digit.0 digit.1 c.loop-digit.invariant.value;
      small = number_small 0 c.loop-digit.digit-index c.loop-digit.all _ c.loop-digit.invariant.small digit.1;
    }

pub returns-clause-small : goal.returns-clause-small
returns-clause-small c = omega (arith, tens_least (0 + c.loop-digit.digit-index) 24 (omega arith))
