use Rattle.std.proofs.Common.{◌+◌, length, arith}
use Rattle.std.specs.Int.{w128}
use Rattle.std.proofs.lemmas.Int.{to_z-of_z}
use Rattle.exact_ratio.proofs.Numbers.{tens_least, scaled_of_few}
use Rattle.exact_ratio.proofs.read.scaled.Goals as goal

pub invariant_of-result : goal.invariant_of-result
invariant_of-result c =
    rw (to_z-of_z w128 c.signed.result c.signed.ensures.fits, c.signed.ensures.size)
    (omega (arith, tens_least (length c.args.whole.now + length c.args.part.now) 18 (omega arith), c.number_after-number-2.ensures.small), omega arith)

pub returns : goal.returns
returns c =
    rw (to_z-of_z w128 c.signed.result c.signed.ensures.fits)
    (scaled_of_few c.args.negative c.args.whole.now c.args.part.now _ _ _ (omega arith) (omega arith) c.number_after-number.ensures.value c.number_after-number-2.ensures.value c.signed.ensures.value)
