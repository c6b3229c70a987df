use Rattle.tile_drill.proofs.Making.{Moment, makes_at}
use Rattle.tile_drill.proofs.drill_run.run_made_line.Goals as goal

pub returns-clause-makes : goal.returns-clause-makes
returns-clause-makes g c =
    let now : Moment =
    record {
      told = g.S.Source.told c.args.source.now;
      renders = g.S.Source.faults c.args.source.now;
      cabinet = c.args.counter.now.cabinet;
      document = c.args.counter.now.capabilities;
      seats = c.args.seats.now;
      x = c.args.draws.now.x;
      text = c.args.output.now;
    } in
    let there : Moment =
    record {
      told = g.S.Source.told c.run_line.new.source;
      renders = g.S.Source.faults c.run_line.new.source;
      cabinet = c.run_line.new.counter.cabinet;
      document = c.run_line.new.counter.capabilities;
      seats = c.run_line.new.seats;
      x = c.made_line.new.draws.x;
      text = c.run_line.new.output;
    } in
    makes_at now there c.args.n c.run_line.result c.in_ok-line.line.items (rw c.catalogue.ensures at c.in_ok-line.ensures) (rw c.as_slice.ensures.value at c.run_line.ensures.writes)
