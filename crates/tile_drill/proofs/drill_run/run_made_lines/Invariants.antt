use Rattle.std.proofs.Common.{◌≡◌, ◌-◌, ◌≤◌, [], length}
use Rattle.tile_service.specs.declared.seats.TheConstants.{ACTORS}
use Rattle.tile_drill.specs.Drill.{line_count}
use Rattle.tile_drill.proofs.Making.{HasDrilled, Moment}
use Rattle.tile_drill.proofs.drill_run.run_made_lines.Given as goal

abbrev pub invariant-making : goal.invariant-making
invariant-making g l =
    let start : Moment =
    record {
      told = g.S.Source.told l.initial.source;
      renders = g.S.Source.faults l.initial.source;
      cabinet = l.initial.counter.cabinet;
      document = l.initial.counter.capabilities;
      seats = l.initial.seats;
      x = l.number;
      text = [];
    } in
    let now : Moment =
    record {
      told = g.S.Source.told l.source;
      renders = g.S.Source.faults l.source;
      cabinet = l.counter.cabinet;
      document = l.counter.capabilities;
      seats = l.seats;
      x = l.draws.x;
      text = l.output;
    } in
    record {
      so_far : HasDrilled start now l.lines l.tally;
      valid : l.counter.cabinet.catalogue ≡ l.initial.counter.cabinet.catalogue;
      capabilities : l.counter.capabilities ≡ l.initial.counter.capabilities;
      few : l.lines ≤ line_count;
      long : length l.seats ≡ ACTORS;
    }

abbrev pub decreases-making : goal.decreases-making
decreases-making g l = line_count - l.lines
