use Rattle.std.proofs.Common.{◌*ℤ◌, ◌^◌, refl, arith}
use Rattle.std.specs.Int.{w128}
use Rattle.std.proofs.lemmas.Int.{to_z-of_z}
use Rattle.matrix_geometry.proofs.Products.{seen_of_size}
use Rattle.matrix_geometry.proofs.Sums.{edge_sum, pixels_most}
use Rattle.http_source.proofs.Numerators.{numerator_most}
use Rattle.http_source.proofs.edges.numerator.Goals as goal

pub overflow_add-result : goal.overflow_add-result
overflow_add-result c =
    let sum = edge_sum c.args.corner c.args.pixels c.args.n c.args.d c.requires.corner c.requires.d c.requires.extent in
    let pixels = seen_of_size (c.args.pixels *ℤ c.args.n) (10 ^ 27) (pixels_most c.args.pixels c.args.n c.args.d c.requires.d c.requires.extent) (omega arith) in
    rw (to_z-of_z w128 c.args.corner c.ranges.corner, to_z-of_z w128 c.args.d c.ranges.d, to_z-of_z w128 c.args.pixels c.ranges.pixels, to_z-of_z w128 c.args.n c.ranges.n, sum.first, pixels, sum.second) sum.fits

pub returns-clause-value : goal.returns-clause-value
returns-clause-value c =
    let sum = edge_sum c.args.corner c.args.pixels c.args.n c.args.d c.requires.corner c.requires.d c.requires.extent in
    let pixels = seen_of_size (c.args.pixels *ℤ c.args.n) (10 ^ 27) (pixels_most c.args.pixels c.args.n c.args.d c.requires.d c.requires.extent) (omega arith) in
    rw (to_z-of_z w128 c.args.corner c.ranges.corner, to_z-of_z w128 c.args.d c.ranges.d, to_z-of_z w128 c.args.pixels c.ranges.pixels, to_z-of_z w128 c.args.n c.ranges.n, sum.first, pixels, sum.second, sum.seen) refl

pub returns-clause-small : goal.returns-clause-small
returns-clause-small c =
    let sum = edge_sum c.args.corner c.args.pixels c.args.n c.args.d c.requires.corner c.requires.d c.requires.extent in
    let pixels = seen_of_size (c.args.pixels *ℤ c.args.n) (10 ^ 27) (pixels_most c.args.pixels c.args.n c.args.d c.requires.d c.requires.extent) (omega arith) in
    rw (to_z-of_z w128 c.args.corner c.ranges.corner, to_z-of_z w128 c.args.d c.ranges.d, to_z-of_z w128 c.args.pixels c.ranges.pixels, to_z-of_z w128 c.args.n c.ranges.n, sum.first, pixels, sum.second, sum.seen)
    (numerator_most c.args.corner c.args.pixels c.args.n c.args.d c.requires.corner c.requires.extent)

pub returns-clause-fits : goal.returns-clause-fits
returns-clause-fits c =
    let sum = edge_sum c.args.corner c.args.pixels c.args.n c.args.d c.requires.corner c.requires.d c.requires.extent in
    let pixels = seen_of_size (c.args.pixels *ℤ c.args.n) (10 ^ 27) (pixels_most c.args.pixels c.args.n c.args.d c.requires.d c.requires.extent) (omega arith) in
    rw (to_z-of_z w128 c.args.corner c.ranges.corner, to_z-of_z w128 c.args.d c.ranges.d, to_z-of_z w128 c.args.pixels c.ranges.pixels, to_z-of_z w128 c.args.n c.ranges.n, sum.first, pixels, sum.second, sum.seen) sum.small
