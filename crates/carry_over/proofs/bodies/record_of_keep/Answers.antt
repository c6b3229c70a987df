use Rattle.durable_cabinet.proofs.Fitting.{meta_fits}
use Rattle.carry_over.proofs.bodies.record_of_keep.Goals as goal

pub returns-clause-fits : goal.returns-clause-fits
returns-clause-fits c =
    let t = c.args.kept in
    (c.wide.ensures, meta_fits c.args.catalogue.now c.requires.valid t.meta c.requires.meta c.four.ensures c.narrow.ensures c.narrow-2.ensures, c.wide-2.ensures, c.narrow-3.ensures, c.wide-3.ensures, c.wide-4.ensures)
