use Rattle.std.proofs.Common.{◌≡◌, rules, subst, sym}
use Rattle.metatile_plan.specs.declared.metatile.MetaKey.{MetaKey}
use Rattle.raster_field.specs.Blocks.{IsMeta, block_of}
use Rattle.raster_field.proofs.Metas.{tile_meta}
use Rattle.raster_field.proofs.layout.block_of.Goals as goal

pub returns-clause-is_meta : goal.returns-clause-is_meta
returns-clause-is_meta c =
    let x = c.args.catalogue.now in let a = c.args.address.now in
    let e : c.meta_of.result ≡ block_of x a = search rules in
    subst (λ (k : MetaKey). IsMeta x k) (sym e) (tile_meta x a c.requires.tile)
