use Rattle.std.proofs.Common.{Contains, ap, subst, ◌∙◌}
use Rattle.metatile_plan.specs.declared.metatile.MetaKey.{MetaKey}
use Rattle.metatile_plan.specs.declared.windows.Window.{Window}
use Rattle.raster_field.specs.Rasters.{window_in}
use Rattle.source_render.specs.Renders.{given_image}
use Rattle.cache_core.proofs.Cutting.{given_last}
use Rattle.cache_core.proofs.render.picture_of.Goals as goal

pub returns-in-Ok-clause-given : goal.returns-in-Ok-clause-given
returns-in-Ok-clause-given g c =
    let gave = g.S.Source.gave c.render.new.self in
    let image = c.in_ok-raster.raster in
    let last = given_last _ _ _ c.in-Ok.ensures.gave in
    let is = c.window_at-window.ensures.window ∙ ap (λ (m : MetaKey). window_in c.args.catalogue.now m) c.meta.ensures in
    subst (λ (w : Window). Contains gave (given_image c.args.ticket.now w c.render.new.into)) is last
