use Rattle.std.proofs.Common.{◌<◌, ◌≤◌, ◌∙◌, [], List, ap, arith, length}
use Rattle.std.proofs.lemmas.Bool.Decides.{nat_tests}
use Rattle.std.proofs.lemmas.List.{get_or_default}
use Rattle.extent_map.specs.declared.part.Extent.{Extent}
use Rattle.extent_map.specs.Holes.{last_end}
use Rattle.extent_map.proofs.Without.{all_before}
use Rattle.extent_map.proofs.chunks.is_first_behind.Goals as goal

pub returns-clause-before : goal.returns-clause-before
returns-clause-before c = λ told.
    let chunks = c.args.chunks.now in
    let used = c.last_used_in-before.result in
    let low = c.last_used_in-before.ensures.within in
    let most = c.requires.within in
    let known : used < length chunks = omega arith in
    let end = c.end-2.ensures ∙ ap (λ (ps : List Extent). last_end 0 ps) (c.index-chunks-before.is ∙ get_or_default chunks used c.index-chunks-before.result [] known) in
    let by : c.end-2.result ≤ c.args.place = grind (arith, nat_tests) in
    all_before chunks c.args.size c.args.place used c.args.chunk c.requires.ordered known c.last_used_in-before.ensures.some (λ k a b. c.last_used_in-before.ensures.others k a (omega arith)) (omega (arith, end, by))
