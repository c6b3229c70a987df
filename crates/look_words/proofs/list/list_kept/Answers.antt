use Rattle.std.proofs.Common.{◌≡◌, ◌∙◌, refl}
use Rattle.look_words.proofs.Telling.{list_refused, list_sent}
use Rattle.look_words.proofs.list.list_kept.Goals as goal
use Rattle.sessions.specs.Outside.{counts}

pub returns-in-Ok-clause-lists : goal.returns-in-Ok-clause-lists
returns-in-Ok-clause-lists g c =
    let h = c.in-Ok.ensures.holds in
    rw c.status_of_listing.ensures (list_sent c.args.catalogue.now c.args.layer
    (record { told = g.D.Disk.told c.args.disk.now; faults = counts (g.D.Disk.faults c.args.disk.now) (g.D.Disk.faults c.look.new.disk); from = g.D.Disk.state c.args.disk.now; to = g.D.Disk.state c.look.new.disk })
    (record { writes = counts (g.O.ByteSink.faults c.args.output.now) (g.O.ByteSink.faults c.send_lines.new.output); from = g.O.ByteSink.taken c.args.output.now; to = g.O.ByteSink.taken c.send_lines.new.output })
    (c.send_lines.new.output ≡ c.args.output.now) h.replayed c.as_slice.result.now h.opens (c.as_slice.ensures.value ∙ h.kept_is) c.send_lines.result c.send_lines.ensures.written)

pub returns-in-Err-clause-lists : goal.returns-in-Err-clause-lists
returns-in-Err-clause-lists g c = rw c.status_of_opening.ensures (list_refused c.args.catalogue.now c.args.layer
    (record { told = g.D.Disk.told c.args.disk.now; faults = counts (g.D.Disk.faults c.args.disk.now) (g.D.Disk.faults c.look.new.disk); from = g.D.Disk.state c.args.disk.now; to = g.D.Disk.state c.look.new.disk })
    (record { writes = counts (g.O.ByteSink.faults c.args.output.now) (g.O.ByteSink.faults c.args.output.now); from = g.O.ByteSink.taken c.args.output.now; to = g.O.ByteSink.taken c.args.output.now })
    (c.args.output.now ≡ c.args.output.now) refl c.in-Err.fault c.in-Err.ensures.refused)
