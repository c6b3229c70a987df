use Rattle.std.proofs.Common.{◌∙◌, arith, sym}
use Rattle.truncation_list.specs.Slots.{no_cut}
use Rattle.truncation_list.proofs.Remaining.{fewer_remain}
use Rattle.truncation_list.proofs.purge.stay_at_least.Goals as goal

pub returns-then-left-limit-2 : goal.returns-then-left-limit-2
returns-then-left-limit-2 c =
    let few = fewer_remain c.args.cover.now c.args.least c.args.cuts.now.cuts c.counting.i no_cut (omega arith) (sym c.goes.ensures ∙ c.if-goes.true) in
    let all = c.counting.invariant.counted in
    (λ no. absurd (cc), λ enough. absurd (omega (arith, few, all, enough)))
