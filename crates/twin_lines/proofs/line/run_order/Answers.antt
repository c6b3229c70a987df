use Rattle.twin_lines.proofs.Telling.{reads_as}
use Rattle.twin_lines.proofs.line.run_order.Goals as goal

pub returns-in-Post-clause-runs : goal.returns-in-Post-clause-runs
returns-in-Post-clause-runs g c = reads_as _ _ _ _ _ _ _ _ _ _ _ c.in-Post.is (c.run_post.ensures.runs (g.S.Source.told c.args.source.now) (g.S.Source.faults c.args.source.now))

pub returns-in-Post-clause-goes : goal.returns-in-Post-clause-goes
returns-in-Post-clause-goes g c = c.run_post.ensures.goes (g.S.Source.told c.args.source.now) (g.S.Source.faults c.args.source.now)

pub returns-in-Send-clause-runs : goal.returns-in-Send-clause-runs
returns-in-Send-clause-runs g c = reads_as _ _ _ _ _ _ _ _ _ _ _ c.in-Send.is (c.run_send.ensures.runs (g.S.Source.told c.args.source.now) (g.S.Source.faults c.args.source.now))

pub returns-in-Send-clause-goes : goal.returns-in-Send-clause-goes
returns-in-Send-clause-goes g c = c.run_send.ensures.goes (g.S.Source.told c.args.source.now) (g.S.Source.faults c.args.source.now)

pub returns-in-Carry-clause-runs : goal.returns-in-Carry-clause-runs
returns-in-Carry-clause-runs g c = reads_as _ _ _ _ _ _ _ _ _ _ _ c.in-Carry.is (c.run_carry.ensures.runs (g.S.Source.told c.args.source.now) (g.S.Source.faults c.args.source.now))

pub returns-in-Carry-clause-goes : goal.returns-in-Carry-clause-goes
returns-in-Carry-clause-goes g c = c.run_carry.ensures.goes (g.S.Source.told c.args.source.now) (g.S.Source.faults c.args.source.now)
