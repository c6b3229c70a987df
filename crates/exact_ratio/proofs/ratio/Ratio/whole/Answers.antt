-- 1 has no divisor but 1
use Rattle.std.proofs.Common.{rules}
use Rattle.std.proofs.Math.Nat.{eq-one_of_dvd-one}
use Rattle.exact_ratio.proofs.ratio.Ratio.whole.Goals as goal

pub invariant_of-result : goal.invariant_of-result
invariant_of-result c = record { positive = search rules; lowest = λ g n d. eq-one_of_dvd-one d }
