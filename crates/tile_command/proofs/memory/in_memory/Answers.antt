use Rattle.std.proofs.Common.{inr}
use Rattle.tile_command.proofs.memory.in_memory.Goals as goal

pub returns-in-Ok : goal.returns-in-Ok
returns-in-Ok g c =
    let p = c.in-Ok.ensures.prepared in
    inr (p.of, c.in-Ok.counter.capabilities, p.are, rw p.fresh at c.do_work-status.ensures)
