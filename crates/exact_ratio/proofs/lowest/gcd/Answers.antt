use Rattle.std.proofs.Common.{◌∙◌, sym, subst, rules, ◌≡◌, ℕ}
use Rattle.std.specs.Int.{IsGcd}
use Rattle.exact_ratio.specs.Lowest.{gcd}
use Rattle.exact_ratio.proofs.Divisors.{gcd_end, gcd_is, gcd_step}
use Rattle.exact_ratio.proofs.lowest.gcd.Goals as goal

pub loop-y-preserved : goal.loop-y-preserved
loop-y-preserved c = gcd_step c.loop-y.x c.loop-y.y ∙ c.loop-y.invariant

pub returns-clause-value : goal.returns-clause-value
returns-clause-value c =
    let none : c.loop-y.y ≡ 0 = search rules in
    sym (gcd_end c.loop-y.x c.loop-y.y none) ∙ c.loop-y.invariant

pub returns-clause-divisor : goal.returns-clause-divisor
returns-clause-divisor c =
    let none : c.loop-y.y ≡ 0 = search rules in
    let same : gcd c.args.a c.args.b ≡ c.loop-y.x = sym c.loop-y.invariant ∙ gcd_end c.loop-y.x c.loop-y.y none in
    subst (λ (g : ℕ). IsGcd c.args.a c.args.b g) same (gcd_is c.args.a c.args.b)
