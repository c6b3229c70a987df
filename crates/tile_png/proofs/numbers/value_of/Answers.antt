use Rattle.std.proofs.Common.{arith}
use Rattle.tile_png.proofs.Digits.{tens_least, value_goes_on, value_small}
use Rattle.tile_png.proofs.numbers.value_of.Goals as goal

pub overflow_mul-value : goal.overflow_mul-value
overflow_mul-value c = omega (arith, tens_least c.loop-digit.digit-index 4 (omega arith))

pub overflow_add-value : goal.overflow_add-value
overflow_add-value c =
    omega (arith, tens_least c.loop-digit.digit-index 4 (omega arith), c.requires.digits c.loop-digit.digit-index c.loop-digit-test.true)

pub loop-digit-preserved : goal.loop-digit-preserved
loop-digit-preserved c =
    let digit = c.requires.digits c.loop-digit.digit-index c.loop-digit-test.true in
    rw c.from.ensures record {
      whole = value_goes_on c.args.digits.now c.loop-digit.digit-index c.loop-digit.value _ c.loop-digit-test.true digit.0 digit.1 c.loop-digit.invariant.whole;
      small = value_small c.loop-digit.digit-index c.loop-digit.value _ c.loop-digit.invariant.small digit.1;
    }
