use Rattle.std.proofs.Common.{◌≡◌, refl, unsigned_abs}
use Rattle.std.specs.Int.{w128}
use Rattle.std.proofs.lemmas.Int.{to_z-of_z}
use Rattle.exact_ratio.specs.Lowest.{gcd}
use Rattle.exact_ratio.proofs.Divisors.{IsDivided, divided, lowest_is, lowest_positive, lowest_same}
use Rattle.exact_ratio.proofs.ratio.Ratio.lowest.Goals as goal

is_divided : (c : goal.After-gcd-divisor) → IsDivided c.args.n c.args.d c.gcd-divisor.result
is_divided c =
    let is : c.gcd-divisor.result ≡ gcd (unsigned_abs c.args.n) (unsigned_abs c.args.d) =
    rw (c.gcd-divisor.ensures.value, c.unsigned_abs.ensures.value, c.unsigned_abs-2.ensures.value, to_z-of_z w128 c.args.n c.ranges.n, to_z-of_z w128 c.args.d c.ranges.d) refl in
    divided c.args.n c.args.d c.gcd-divisor.result c.ranges.n c.ranges.d c.requires.positive is

pub overflow_cast-divisor : goal.overflow_cast-divisor
overflow_cast-divisor c = (is_divided c).small

pub nonzero_div-result : goal.nonzero_div-result
nonzero_div-result c = ((is_divided c).some, (is_divided c).n_fits)

pub nonzero_div-result-2 : goal.nonzero_div-result-2
nonzero_div-result-2 c = ((is_divided c).some, (is_divided c).d_fits)

pub invariant_of-result : goal.invariant_of-result
invariant_of-result c = rw ((is_divided c).n_is, (is_divided c).d_is) (lowest_is c.args.n c.args.d c.requires.positive)

pub returns-clause-lowest : goal.returns-clause-lowest
returns-clause-lowest c = rw ((is_divided c).n_is, (is_divided c).d_is) refl

pub returns-clause-same_value : goal.returns-clause-same_value
returns-clause-same_value c = rw ((is_divided c).n_is, (is_divided c).d_is) (lowest_same c.args.n c.args.d c.requires.positive)

pub returns-clause-stays_positive : goal.returns-clause-stays_positive
returns-clause-stays_positive c = λ h. rw (is_divided c).n_is (lowest_positive c.args.n c.args.d h c.requires.positive)
