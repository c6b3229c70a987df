use Rattle.std.proofs.Common.{rules, subst}
use Rattle.metatile_plan.specs.declared.windows.Window.{Window}
use Rattle.metatile_plan.specs.Plan.{IsWindowOn, tiles_of}
use Rattle.metatile_plan.proofs.Sides.{window_on}
use Rattle.metatile_plan.proofs.plan.window.Goals as goal

pub returns-clause-on : goal.returns-clause-on
returns-clause-on c =
    let m = c.args.m.now in let r = tiles_of c.args.f.now m c.args.meta.now in
    subst (λ (w : Window). IsWindowOn m r w) (search rules) (window_on c.args.f.now m c.args.meta.now c.requires.limits c.requires.plan c.requires.meta)
