use Rattle.std.proofs.Common.{arith}
use Rattle.ppm_reading.proofs.Digits.{number_goes_on, number_small, tens_least}
use Rattle.ppm_reading.proofs.numbers.number_of.Goals as goal

pub overflow_mul-number : goal.overflow_mul-number
overflow_mul-number c = omega (arith, tens_least c.loop-digit.digit-index 8 (omega arith))

pub overflow_add-number : goal.overflow_add-number
overflow_add-number c =
    omega (arith, tens_least c.loop-digit.digit-index 8 (omega arith), c.requires.digits c.loop-digit.digit-index c.loop-digit-test.true)

pub loop-digit-preserved : goal.loop-digit-preserved
loop-digit-preserved c =
    let digit = c.requires.digits c.loop-digit.digit-index c.loop-digit-test.true in
    rw c.from.ensures record {
      value = number_goes_on c.args.digits.now c.loop-digit.digit-index c.loop-digit.number _ c.loop-digit-test.true digit.0 digit.1 c.loop-digit.invariant.value;
      small = number_small c.loop-digit.digit-index c.loop-digit.number _ c.loop-digit.invariant.small digit.1;
    }
