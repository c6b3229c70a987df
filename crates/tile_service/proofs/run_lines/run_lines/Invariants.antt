use Rattle.std.proofs.Common.{◌≡◌, ◌+◌, ◌≤◌, length}
use Rattle.cache_core.specs.Lasting.{Lasting}
use Rattle.tile_service.specs.Passing.{LeadsThrough}
use Rattle.tile_service.proofs.Scheduling.{Moment, ReadsThrough}
use Rattle.tile_service.proofs.run_lines.run_lines.Given as goal

abbrev pub invariant-loop-rest : goal.invariant-loop-rest
invariant-loop-rest g l =
    let start : Moment =
    record {
      told = g.S.Source.told l.initial.source;
      renders = g.S.Source.faults l.initial.source;
      disk = g.C.Keeper.faults l.initial.counter.cabinet;
      writes = g.O.ByteSink.faults l.initial.output;
      taken = g.O.ByteSink.taken l.initial.output;
      cabinet = g.C.Keeper.state l.initial.counter.cabinet;
      document = l.initial.counter.capabilities;
      seats = l.initial.seats;
    } in
    let now : Moment =
    record {
      told = g.S.Source.told l.source;
      renders = g.S.Source.faults l.source;
      disk = g.C.Keeper.faults l.counter.cabinet;
      writes = g.O.ByteSink.faults l.output;
      taken = g.O.ByteSink.taken l.output;
      cabinet = g.C.Keeper.state l.counter.cabinet;
      document = l.counter.capabilities;
      seats = l.seats;
    } in
    record {
      so_far : ReadsThrough (LeadsThrough _ g.C.Keeper.state g.C.Keeper.outlasts l.initial.counter.cabinet l.counter.cabinet) start now l.text l.lines l.rest;
      valid : (g.C.Keeper.state l.counter.cabinet).catalogue ≡ (g.C.Keeper.state l.initial.counter.cabinet).catalogue;
      capabilities : l.counter.capabilities ≡ l.initial.counter.capabilities;
      lasts : Lasting (g.C.Keeper.outlasts l.initial.counter.cabinet l.counter.cabinet) (g.C.Keeper.state l.initial.counter.cabinet) (g.C.Keeper.state l.counter.cabinet);
      few : l.lines + length l.rest ≤ length l.text;
    }

abbrev pub decreases-loop-rest : goal.decreases-loop-rest
decreases-loop-rest g l = length l.rest
