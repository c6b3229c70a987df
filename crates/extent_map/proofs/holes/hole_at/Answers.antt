use Rattle.std.proofs.Common.{arith, ◌+◌, ◌<◌, ◌≤◌, drop, take}
use Rattle.std.proofs.lemmas.Bool.Decides.{nat_tests}
use Rattle.extent_map.specs.Parts.{part_at}
use Rattle.extent_map.specs.Holes.{first_start, last_end}
use Rattle.extent_map.proofs.Order.{rises}
use Rattle.extent_map.proofs.Claims.{claims_hole, claims_none_before, claims_none_behind}
use Rattle.extent_map.proofs.holes.hole_at.Goals as goal

pub starts_before-index-requires : goal.starts_before-index-requires
starts_before-index-requires c = record { rising = rises 0 c.args.parts.now c.args.size c.requires.ordered }

pub returns-then-low-place-clause-none : goal.returns-then-low-place-clause-none
returns-then-low-place-clause-none c =
    let low = c.end_before-low.ensures in let above = c.if-low-place.true in
    let over : c.args.place < last_end 0 (take c.starts_before-index.result c.args.parts.now) = grind (arith, nat_tests) in
    claims_none_before c.args.parts.now c.args.size c.starts_before-index.result (part_at c.args.place c.args.bytes) c.starts_before-index.ensures.before over c.requires.some

pub returns-then-not-fits-clause-none : goal.returns-then-not-fits-clause-none
returns-then-not-fits-clause-none c =
    let high = c.start_behind-high.ensures in let told = c.fits.ensures in let no = c.if-not-fits.true in
    claims_none_behind c.args.parts.now c.args.size c.starts_before-index.result (part_at c.args.place c.args.bytes) c.requires.ordered c.starts_before-index.ensures.behind (λ h. grind (arith, nat_tests))

pub returns-clause-hole : goal.returns-clause-hole
returns-clause-hole c =
    let low = c.end_before-low.ensures in let below = c.if-low-place.false in
    let under : last_end 0 (take c.starts_before-index.result c.args.parts.now) ≤ c.args.place = grind (arith, nat_tests) in
    let high = c.start_behind-high.ensures in let told = c.fits.ensures in let yes = c.if-not-fits.false in
    let over : c.args.place + c.args.bytes ≤ first_start (drop c.starts_before-index.result c.args.parts.now) c.args.size = grind (arith, nat_tests) in
    claims_hole c.args.parts.now c.args.size c.starts_before-index.result (part_at c.args.place c.args.bytes) c.starts_before-index.ensures.within c.requires.ordered under over
