use Rattle.std.proofs.Common.{◌∙◌}
use Rattle.std.proofs.lemmas.Result.{IfOk-weaker}
use Rattle.durable_cabinet.proofs.OpeningBegun.{begun_as, images_like, opens_here, state_as}
use Rattle.durable_cabinet.proofs.entering.begin.Goals as goal

pub enter-requires-clause-begun : goal.enter-requires-clause-begun
enter-requires-clause-begun g c =
    let f = c.args.file in
    let x = c.args.restored in
    begun_as (g.D.Disk.told f.disk) c.args.catalogue c.args.clock c.in-Some.number (g.D.Disk.state f.disk) f.journal x.opening x.kept.items x.cuts.book c.requires.replayed c.in-Some.ensures.some.0 c.in-Ok.core.state f.start c.in-Ok.ensures f.behind c.requires.ours

pub returns-in-Ok-new-clause-opened : goal.returns-in-Ok-new-clause-opened
returns-in-Ok-new-clause-opened g c =
    let f = c.args.file in
    let x = c.args.restored in
    let told = g.D.Disk.told f.disk in
    let state = g.D.Disk.state f.disk in
    IfOk-weaker c.enter.result _ _ (λ made is. (
      c.requires.replayed.restored.replayed,
      is ∙ state_as told c.args.catalogue c.args.clock c.in-Some.number state f.journal x.opening x.kept.items x.cuts.book c.requires.replayed c.in-Some.ensures.some.0 c.in-Ok.core.state state.seen c.in-Ok.ensures,
      opens_here told c.args.catalogue c.args.clock c.in-Some.number state f.journal x.opening x.kept.items x.cuts.book c.requires.replayed c.in-Some.ensures.some.0,
    )) c.enter.ensures.state

pub returns-in-Ok-new-clause-images : goal.returns-in-Ok-new-clause-images
returns-in-Ok-new-clause-images g c told =
    let f = c.args.file in
    let x = c.args.restored in
    images_like (g.D.Disk.told f.disk) c.args.catalogue c.args.clock c.in-Some.number (g.D.Disk.state f.disk) f.journal x.opening x.kept.items x.cuts.book c.requires.replayed c.in-Some.ensures.some.0 c.in-Ok.core.state _ c.in-Ok.ensures told (c.enter.ensures.images told)
