use Rattle.std.proofs.Common.{◌+◌, arith}
use Rattle.exact_ratio.proofs.Numbers.{number_goes_on, number_small, tens_least}
use Rattle.exact_ratio.proofs.read.number_after.Goals as goal

pub overflow_mul-all : goal.overflow_mul-all
overflow_mul-all c = omega (arith, tens_least (c.args.before + c.loop-digit.digit-index) 17 (omega arith))

pub overflow_add-all : goal.overflow_add-all
overflow_add-all c =
    omega (arith, tens_least (c.args.before + c.loop-digit.digit-index) 17 (omega arith), c.requires.digits.at c.loop-digit.digit-index c.loop-digit-test.true)

pub loop-digit-preserved : goal.loop-digit-preserved
loop-digit-preserved c =
    let digit = c.requires.digits.at c.loop-digit.digit-index c.loop-digit-test.true in
    rw c.from.ensures record {
      value = number_goes_on c.args.digits.now c.loop-digit.digit-index c.loop-digit.all _ c.loop-digit-test.true digit.0 digit.1 c.loop-digit.invariant.value;
      small = number_small c.args.before c.loop-digit.digit-index c.loop-digit.all _ c.loop-digit.invariant.small digit.1;
    }
