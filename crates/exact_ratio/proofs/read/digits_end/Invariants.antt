use Rattle.std.proofs.Common.{◌≡◌, ℕ, ◌<◌, ◌≤◌, get_or}
use Rattle.exact_ratio.specs.Decimal.{digits_end}
use Rattle.exact_ratio.proofs.read.digits_end.Given as goal

abbrev pub invariant-loop-place : goal.invariant-loop-place
invariant-loop-place l =
    record {
      value : digits_end l.text l.place ≡ digits_end l.text l.from;
      digits : (k : ℕ) → l.from ≤ k → k < l.place → (48 ≤ get_or l.text k 0) × (get_or l.text k 0 ≤ 57);
    }
