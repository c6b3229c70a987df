use Rattle.std.proofs.Common.{◌∙◌, sym, arith}
use Rattle.cache_tests.proofs.Popped.{both_popped, some_is}
use Rattle.cache_tests.proofs.pair.new_pair.Goals as goal

pub returns-clause-fresh : goal.returns-clause-fresh
returns-clause-fresh c =
    let fresh = c.in_ok-sheet.ensures.hands in
    let two = c.in_ok-sheet.ensures.size.1 in
    let p = both_popped _ _ _ _ _ c.in-Some.ensures.items c.in-Some-pop.ensures.items (fresh.count ∙ two) in
    (some_is _ _ (sym p.0 ∙ fresh.each 0 (omega arith)), some_is _ _ (sym p.1 ∙ fresh.each 1 (omega arith)), c.in_ok-sheet.ensures.watch)
