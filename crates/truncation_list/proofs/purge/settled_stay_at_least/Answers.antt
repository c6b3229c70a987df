use Rattle.std.proofs.Common.{◌∙◌, ap, arith, List, length}
use Rattle.std.proofs.lemmas.Bool.Decides.{nat_tests}
use Rattle.truncation_list.specs.declared.book.Cut.{Cut}
use Rattle.truncation_list.specs.Slots.{no_cut, stays}
use Rattle.truncation_list.proofs.Filters.{filter_fewer, filter_whole}
use Rattle.truncation_list.proofs.Outermost.{settled_remaining}
use Rattle.truncation_list.proofs.purge.settled_stay_at_least.Goals as goal

pub returns-in-None : goal.returns-in-None
returns-in-None c =
    let cuts = c.args.cuts.now.cuts in
    let all = ap (λ (ks : List Cut). length ks) (settled_remaining c.args.cover.now c.args.least cuts c.requires ∙ filter_whole (stays c.args.cover.now c.args.least) cuts c.in-None.ensures) in
    let len = c.len.ensures.value in
    (λ t. grind (arith, nat_tests, all, len), λ h. grind (arith, nat_tests, all, len))

pub returns-else-limit-len : goal.returns-else-limit-len
returns-else-limit-len c =
    let cuts = c.args.cuts.now.cuts in
    let goes = c.in-Some.ensures in
    let kept = ap (λ (ks : List Cut). length ks) (settled_remaining c.args.cover.now c.args.least cuts c.requires) in
    let fewer = filter_fewer (stays c.args.cover.now c.args.least) cuts c.in-Some.field-0 no_cut goes.0 goes.1 in
    let len = c.len-in-Some.ensures.value in
    (λ t. grind (arith, nat_tests, len), λ h. grind (arith, nat_tests, kept, fewer, len))
