use Rattle.durable_cabinet.proofs.Fitting.{cover_fits}
use Rattle.carry_over.proofs.bodies.record_of_cut.Goals as goal

pub returns-clause-fits : goal.returns-clause-fits
returns-clause-fits c = (c.ranges.number.fits, cover_fits c.args.catalogue.now c.requires.valid c.args.cover c.requires.cover c.edges.ensures c.four_wanted.ensures)
