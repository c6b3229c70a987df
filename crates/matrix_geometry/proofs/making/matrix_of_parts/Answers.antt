use Rattle.matrix_geometry.proofs.Made.{PassesTests, made_is, within_limits}
use Rattle.matrix_geometry.proofs.Products.{seen_64_of_size}
use Rattle.matrix_geometry.proofs.making.matrix_of_parts.Goals as goal

passes : (c : goal.After-billionths-2) → PassesTests c.in-Some.span c.args.corner.now c.args.tile c.args.size
passes c = record {
  in_corner = c.if-not-is_corner.ensures;
  fine = c.if-not-is_fine_enough.ensures.value;
  sides = c.if-not-is_tile_size.ensures;
  counts = c.if-not-is_matrix_size.ensures;
  extent = c.if-not-is_within_extent.ensures;
}

pub returns-clause-made : goal.returns-clause-made
returns-clause-made c =
    rw (seen_64_of_size c.billionths.result c.billionths.ensures.small, seen_64_of_size c.billionths-2.result c.billionths-2.ensures.small)
    (made_is c.args.span c.in-Some.span c.args.corner.now c.args.tile c.args.size c.billionths.result c.billionths-2.result c.in-Some.is (passes c) c.billionths.ensures.value c.billionths-2.ensures.value)

pub returns-clause-limits : goal.returns-clause-limits
returns-clause-limits c =
    rw (seen_64_of_size c.billionths.result c.billionths.ensures.small, seen_64_of_size c.billionths-2.result c.billionths-2.ensures.small)
    (within_limits c.in-Some.span c.args.corner.now c.args.tile c.args.size c.billionths.result c.billionths-2.result (c.requires c.in-Some.span c.in-Some.is) c.if-not-is_fine_enough.ensures.positive (passes c) c.billionths.ensures.small c.billionths-2.ensures.small)
