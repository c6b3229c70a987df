use Rattle.std.proofs.Common.{◌*ℤ◌, ◌^◌, pos, refl, arith, rules}
use Rattle.std.specs.Prelude.{FitsSigned}
use Rattle.std.specs.Int.{w128}
use Rattle.std.proofs.lemmas.Int.{to_z-of_z}
use Rattle.matrix_geometry.proofs.Products.{abs-mul-le, seen_of_size}
use Rattle.matrix_geometry.proofs.Sums.{floor_sum}
use Rattle.matrix_geometry.proofs.geometry.floor_of_parts.Goals as goal

pub overflow_add-distance : goal.overflow_add-distance
overflow_add-distance c =
    let sum = floor_sum c.args.distance c.args.tile c.args.d c.args.more c.requires.distance c.requires.tile c.requires.d c.requires.more in
    rw (to_z-of_z w128 c.args.distance c.ranges.distance, to_z-of_z w128 c.args.d c.ranges.d, to_z-of_z w128 c.args.more c.ranges.more, to_z-of_z w128 c.args.tile c.ranges.tile, sum.first, sum.second) sum.fits

pub returns : goal.returns
returns c =
    let sum = floor_sum c.args.distance c.args.tile c.args.d c.args.more c.requires.distance c.requires.tile c.requires.d c.requires.more in
    let denominator = seen_of_size (pos (10 ^ 9) *ℤ c.args.tile) (10 ^ 32) (abs-mul-le (pos (10 ^ 9)) c.args.tile (10 ^ 9) (10 ^ 23) (omega arith) c.requires.tile) (omega arith) in
    let fits : FitsSigned w128 c.floor_div.result = search rules in
    rw (to_z-of_z w128 c.floor_div.result fits, c.floor_div.ensures.value, to_z-of_z w128 c.args.distance c.ranges.distance, to_z-of_z w128 c.args.d c.ranges.d, to_z-of_z w128 c.args.more c.ranges.more, to_z-of_z w128 c.args.tile c.ranges.tile, sum.first, sum.second, sum.seen, denominator) refl
