use Rattle.std.proofs.Common.{refl}
use Rattle.tile_command.proofs.Serving.{less_stays}
use Rattle.tile_command.proofs.memory.do_work.Goals as goal

pub returns-in-Schedule : goal.returns-in-Schedule
returns-in-Schedule g c =
    rw c.in-Schedule.is
    (c.run_schedule-end.result, c.status_of_schedule.ensures, _, c.known.ensures, less_stays _ _ _ _ (λ h. (h.0, h.1)) _ _ c.run_schedule-end.result c.run_schedule-end.ensures.schedules)

pub returns-in-Replay : goal.returns-in-Replay
returns-in-Replay g c = rw c.in-Replay.is (c.replay_streams-end.result, c.status_of_session.ensures, _, c.known-in-Replay.ensures, c.replay_streams-end.ensures.leads.0)

pub returns-in-Drill : goal.returns-in-Drill
returns-in-Drill g c = rw c.in-Drill.is (c.run_drill-end.result, c.status_of_drill.ensures, _, c.known-in-Drill.ensures, refl, c.run_drill-end.ensures)
