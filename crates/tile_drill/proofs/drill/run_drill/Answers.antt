use Rattle.std.proofs.Common.{refl, ◌∙◌}
use Rattle.tile_service.proofs.Closing.{closes_at}
use Rattle.tile_drill.proofs.Summing.{drills_cut, drills_done, drills_nothing, drills_short}
use Rattle.tile_drill.proofs.drill.run_drill.Goals as goal

pub returns-in_default : goal.returns-in_default
returns-in_default g c = drills_nothing (g.S.Source.told c.args.source.now) (g.S.Source.faults c.args.source.now) c.args.number c.args.counter.now.cabinet c.args.counter.now.capabilities refl

pub returns-in-Ok-send_summary : goal.returns-in-Ok-send_summary
returns-in-Ok-send_summary g c =
    let lines = c.run_made_lines-end in
    let r = c.in-Done.ensures.made in
    let closes = closes_at lines.new.counter.cabinet c.close.new.cabinet lines.new.counter.capabilities r.0 lines.new.seats r.1 c.in-Ok.seats.len _ (lines.auto.seats ∙ c.as_mut_slice.ensures.len) c.close.ensures.cabinet in
    drills_done r.2 closes (g.O.ByteSink.taken c.args.output.now) (g.O.ByteSink.taken c.send_summary.new.output) c.in-Ok-send_summary.ensures.ok

pub returns-in-Err : goal.returns-in-Err
returns-in-Err g c =
    let lines = c.run_made_lines-end in
    let r = c.in-Done.ensures.made in
    let closes = closes_at lines.new.counter.cabinet c.close.new.cabinet lines.new.counter.capabilities r.0 lines.new.seats r.1 c.in-Ok.seats.len _ (lines.auto.seats ∙ c.as_mut_slice.ensures.len) c.close.ensures.cabinet in
    drills_cut r.2 closes (g.O.ByteSink.taken c.args.output.now) (g.O.ByteSink.taken c.send_summary.new.output) (g.O.ByteSink.faults c.args.output.now) (g.O.ByteSink.faults c.send_summary.new.output) c.in-Err.ensures.err c.in-Err.ensures.cause.failed

pub returns-in-OutOfMemory : goal.returns-in-OutOfMemory
returns-in-OutOfMemory g c =
    let lines = c.run_made_lines-end in
    let r = c.in-OutOfMemory.ensures.made in
    let closes = closes_at lines.new.counter.cabinet c.close.new.cabinet lines.new.counter.capabilities r.0 lines.new.seats r.1 c.in-Ok.seats.len _ (lines.auto.seats ∙ c.as_mut_slice.ensures.len) c.close.ensures.cabinet in
    drills_short r.2 closes refl
