use Rattle.durable_cabinet.proofs.Fitting.{kept_meta, meta_fits}
use Rattle.durable_cabinet.proofs.entries.record_of_drop.Goals as goal

pub returns-clause-fits : goal.returns-clause-fits
returns-clause-fits c =
    let s = c.args.core.now.state in
    let t = c.args.kept in
    (c.wide.ensures, meta_fits s.catalogue c.known.ensures.valid t.meta (kept_meta s c.known.ensures t c.requires) c.four.ensures c.narrow.ensures c.narrow-2.ensures)
