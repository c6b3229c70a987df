use Rattle.std.proofs.Common.{rules, arith}
use Rattle.std.proofs.lemmas.Bool.Decides.{nat_tests}
use Rattle.extent_map.proofs.Order.{end_within}
use Rattle.extent_map.proofs.Passed.{passed_start, passed_more, passed_gap, passed_none}
use Rattle.extent_map.proofs.gaps.first_gap.Goals as goal

pub loop-index-init : goal.loop-index-init
loop-index-init c = rw c.start_behind-place.ensures (passed_start c.args.parts.now c.args.bytes)

pub returns-then-fits-clause-gap : goal.returns-then-fits-clause-gap
returns-then-fits-clause-gap c =
    let told = c.fits.ensures in let yes = c.if-fits.true in
    passed_gap c.args.parts.now c.args.bytes c.loop-index.index c.loop-index.place (record { place = 0; length = 0 }) c.loop-index-test.true c.loop-index.invariant c.requires.some (grind (arith, nat_tests))

pub overflow_add-place : goal.overflow_add-place
overflow_add-place c =
    let size = c.ranges.size.fits in
    let within = end_within 0 c.args.parts.now c.args.size c.requires.ordered c.loop-index.index (record { place = 0; length = 0 }) c.loop-index-test.true in
    search rules

pub loop-index-preserved : goal.loop-index-preserved
loop-index-preserved c =
    let told = c.fits.ensures in let no = c.if-fits.false in
    rw c.from.ensures (passed_more c.args.parts.now c.args.bytes c.loop-index.index c.loop-index.place (record { place = 0; length = 0 }) c.loop-index-test.true c.loop-index.invariant (grind (arith, nat_tests)))

pub returns-clause-none : goal.returns-clause-none
returns-clause-none c = let end = c.loop-index-test.false in passed_none c.args.parts.now c.args.bytes c.loop-index.index c.loop-index.place (search rules) c.loop-index.invariant
