use Rattle.std.proofs.Common.{ℕ, ◌+◌, ◌*◌, ◌^◌, ◌≡◌, arith, ap, ◌∙◌}
use Rattle.std.proofs.Math.Nat.{mod-lt}
use Rattle.window_request.proofs.Tens.{tens_least, ten_more, digit_small, longer}
use Rattle.window_request.proofs.rounding.rounded.Goals as goal

add_up : (k : ℕ) → 18 + (k + 1) ≡ 18 + k + 1
add_up k = omega arith

pub overflow_mul-units : goal.overflow_mul-units
overflow_mul-units c = omega (arith, tens_least (18 + c.places.counter) 33 (omega arith), c.places.invariant.units)

pub overflow_add-units : goal.overflow_add-units
overflow_add-units c = omega (arith, tens_least (18 + c.places.counter) 33 (omega arith), c.places.invariant.units, digit_small c.places.rest c.args.d c.requires.some c.places.invariant.small)

pub overflow_add-result : goal.overflow_add-result
overflow_add-result c = omega (arith, tens_least (18 + c.places.counter) 33 (omega arith), c.places.invariant.units)

pub places-preserved : goal.places-preserved
places-preserved c = record {
  small = mod-lt _ c.requires.some;
  units = omega (arith, ten_more (18 + c.places.counter), ap (λ k. 10 ^ k) (add_up c.places.counter), c.places.invariant.units, digit_small c.places.rest c.args.d c.requires.some c.places.invariant.small);
  value = ap (λ k. c.args.n * k) (ten_more c.places.counter) ∙ longer c.args.n (10 ^ c.places.counter) c.args.d c.places.units c.places.rest c.places.invariant.value;
}
