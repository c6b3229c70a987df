use Rattle.std.proofs.Common.{subst, ◌≡◌, ◌*◌}
use Rattle.metatile_plan.specs.declared.metatile.Factors.{Factors}
use Rattle.metatile_plan.specs.Plan.{meta_of}
use Rattle.raster_field.specs.Blocks.{tile_in}
use Rattle.raster_field.proofs.Firsts.{first_in}
use Rattle.raster_field.proofs.layout.first_tile.Goals as goal

pub returns-clause-block : goal.returns-clause-block
returns-clause-block c =
    let k = c.args.meta.now in
    let is = c.layout_of-layout.ensures.factors in
    let f = c.layout_of-layout.result.factors in
    subst (λ (g : Factors). meta_of g (tile_in k (k.row * f.y) (k.col * f.x)) ≡ k) is (first_in f k c.layout_of-layout.ensures.plan.x c.layout_of-layout.ensures.plan.y)
