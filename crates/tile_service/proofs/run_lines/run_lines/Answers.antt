use Rattle.std.proofs.Common.{rules, arith, refl, ◌∙◌}
use Rattle.tile_service.specs.Passing.{LeadsThrough}
use Rattle.tile_service.proofs.Passing.{leads_here, leads_on}
use Rattle.tile_service.proofs.Scheduling.{reads_start, reads_next, run_cut, run_refused, run_done}
use Rattle.tile_service.proofs.run_lines.run_lines.Goals as goal

pub loop-rest-init : goal.loop-rest-init
loop-rest-init g c =
    let itself = c.laws_of_lasting.ensures.itself in
    let first = c.args.counter.now.cabinet in
    record {
      so_far = reads_start (LeadsThrough _ g.C.Keeper.state g.C.Keeper.outlasts first first) (leads_here g.C.Keeper.state g.C.Keeper.outlasts first first (itself first) (itself first)) c.requires.free;
      valid = refl;
      capabilities = refl;
      lasts = itself first;
      few = omega arith;
    }

pub returns-in-Refused-clause-run : goal.returns-in-Refused-clause-run
returns-in-Refused-clause-run g c =
    let i = c.loop-rest.invariant in
    let first = c.args.counter.now.cabinet in
    let now = c.loop-rest.counter.cabinet in
    let there = c.run_line.new.counter.cabinet in
    let onward = leads_on g.C.Keeper.state g.C.Keeper.outlasts c.laws_of_lasting.ensures.on first now there c.run_line.ensures.lasts in
    run_refused (LeadsThrough _ g.C.Keeper.state g.C.Keeper.outlasts first there) (i.so_far.0, λ n more. onward _ (i.so_far.1 n more)) (record {
      line = c.split_line.result.0.now;
      next = c.split_line.result.1.now;
      split = c.split_line.ensures.lines;
      told = c.run_line.ensures.told;
      later = c.run_line.ensures.later;
      document = c.run_line.ensures.capabilities;
      writes = c.in-Refused.ensures.writes;
    }) (onward _ (leads_here g.C.Keeper.state g.C.Keeper.outlasts first now i.lasts (c.laws_of_lasting.ensures.itself now)))

pub returns-in-WriteFault-clause-run : goal.returns-in-WriteFault-clause-run
returns-in-WriteFault-clause-run g c =
    let i = c.loop-rest.invariant in
    let first = c.args.counter.now.cabinet in
    let now = c.loop-rest.counter.cabinet in
    let there = c.run_line.new.counter.cabinet in
    let on = c.laws_of_lasting.ensures.on in
    run_cut (LeadsThrough _ g.C.Keeper.state g.C.Keeper.outlasts first now) (LeadsThrough _ g.C.Keeper.state g.C.Keeper.outlasts first there) (leads_on g.C.Keeper.state g.C.Keeper.outlasts on first now there c.run_line.ensures.lasts) i.so_far (record {
      line = c.split_line.result.0.now;
      next = c.split_line.result.1.now;
      split = c.split_line.ensures.lines;
      told = c.run_line.ensures.told;
      later = c.run_line.ensures.later;
      document = c.run_line.ensures.capabilities;
      writes = c.in-WriteFault.ensures.writes;
    }) (leads_here g.C.Keeper.state g.C.Keeper.outlasts first there (on _ _ _ i.lasts c.run_line.ensures.lasts) (c.laws_of_lasting.ensures.itself there))

pub loop-rest-preserved : goal.loop-rest-preserved
loop-rest-preserved g c =
    let i = c.loop-rest.invariant in
    let first = c.args.counter.now.cabinet in
    let now = c.loop-rest.counter.cabinet in
    let there = c.run_line.new.counter.cabinet in
    let on = c.laws_of_lasting.ensures.on in
    let lasts = on _ _ _ i.lasts c.run_line.ensures.lasts in
    record {
      so_far = reads_next (LeadsThrough _ g.C.Keeper.state g.C.Keeper.outlasts first now) (LeadsThrough _ g.C.Keeper.state g.C.Keeper.outlasts first there) (leads_on g.C.Keeper.state g.C.Keeper.outlasts on first now there c.run_line.ensures.lasts) i.so_far (record {
        line = c.split_line.result.0.now;
        next = c.split_line.result.1.now;
        split = c.split_line.ensures.lines;
        told = c.run_line.ensures.told;
        later = c.run_line.ensures.later;
        document = c.run_line.ensures.capabilities;
        writes = c.in-Done.ensures.writes;
      }) (leads_here g.C.Keeper.state g.C.Keeper.outlasts first there lasts (c.laws_of_lasting.ensures.itself there));
      valid = c.run_line.ensures.catalogue ∙ i.valid;
      capabilities = c.run_line.ensures.capabilities ∙ i.capabilities;
      lasts = lasts;
      few = omega (arith, i.few, c.split_line.ensures.shorter);
    }

pub returns-clause-run : goal.returns-clause-run
returns-clause-run g c =
    run_done (LeadsThrough _ g.C.Keeper.state g.C.Keeper.outlasts c.args.counter.now.cabinet c.loop-rest.counter.cabinet) c.loop-rest.invariant.so_far (search rules)
