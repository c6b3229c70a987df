use Rattle.std.proofs.Common.{◌+◌, ◌<◌, arith}
use Rattle.std.proofs.lemmas.Bool.Decides.{nat_tests}
use Rattle.extent_map.specs.Holes.{first_start}
use Rattle.extent_map.proofs.Passed.{gap_first}
use Rattle.extent_map.proofs.chunks.hole_in.Goals as goal

pub returns-clause-hole : goal.returns-clause-hole
returns-clause-hole c =
    let start = c.start.ensures in let told = c.fits.ensures in let no = c.if-fits.false in
    let low : first_start c.args.chunk.now 0 < c.args.place + c.args.bytes = grind (arith, nat_tests) in
    gap_first c.args.chunk.now c.args.place c.args.bytes c.gap.result low c.gap.ensures.gap
