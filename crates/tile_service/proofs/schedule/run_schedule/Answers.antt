use Rattle.std.proofs.Common.{sym, ◌∙◌}
use Rattle.tile_service.specs.Passing.{LeadsThrough}
use Rattle.tile_service.specs.Run.{run_state_of}
use Rattle.tile_service.proofs.Closing.{closed_through, closes_at}
use Rattle.tile_service.proofs.Passing.{leads_on}
use Rattle.tile_service.proofs.schedule.run_schedule.Goals as goal

pub returns-clause-leads : goal.returns-clause-leads
returns-clause-leads g c =
    let r = c.run_lines-end.ensures.run in
    let first = c.args.counter.now.cabinet in
    let then = c.run_lines-end.new.counter.cabinet in
    let later = c.close.new.cabinet in
    rw c.end_of.ensures (
    closed_through (LeadsThrough _ g.C.Keeper.state g.C.Keeper.outlasts first then) _ _ _
    (run_state_of (g.C.Keeper.state then) c.args.counter.now.capabilities r.0) _ c.in-Ok.text.items
    (record { read = c.in-Ok.ensures.whole.0; at_end = c.in-Ok.ensures.whole.1; short = c.in-Ok.ensures.whole.2 })
    (rw c.run_lines-end.ensures.capabilities (closes_at (g.C.Keeper.state then) (g.C.Keeper.state later) c.args.counter.now.capabilities r.0 c.run_lines-end.new.seats r.1 c.in-Ok-free_seats.seats.len _ (c.run_lines-end.auto.seats ∙ c.as_mut_slice.ensures.len) c.close.ensures.cabinet))
    (LeadsThrough _ g.C.Keeper.state g.C.Keeper.outlasts first later)
    (leads_on g.C.Keeper.state g.C.Keeper.outlasts c.laws_of_lasting.ensures.on first then later c.close.ensures.lasts)
    _ c.run_lines-end.result
    (rw (c.run_lines-end.ensures.capabilities, c.as_slice.ensures.value, sym c.close.ensures.faults) at r.2)
    )

pub returns-clause-schedules : goal.returns-clause-schedules
returns-clause-schedules g c = (returns-clause-leads g c).0
