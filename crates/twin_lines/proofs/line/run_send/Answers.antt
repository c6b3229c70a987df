use Rattle.std.proofs.Common.{ap, refl}
use Rattle.disk_model.specs.Moments.{leaves_none}
use Rattle.twin_lines.specs.Steps.{sent}
use Rattle.twin_lines.proofs.Telling.{disk_same, file_same, leaves_same, short_here, told_as}
use Rattle.twin_lines.proofs.line.run_send.Goals as goal

pub returns-in-Ok-clause-runs : goal.returns-in-Ok-clause-runs
returns-in-Ok-clause-runs g c = λ source failed.
    told_as _ source _ _ _ _ _ _ _ (sent c.in-Ok.place) _
    (record {
      asked = refl;
      runs = λ told. (c.in-Ok.ensures.sends, c.in-Ok.ensures.leads);
      posts = λ is. leaves_same _ _ _ (ap (λ d. g.N.Disk.state d) (disk_same _ _ (file_same _ _ c.send.ensures.outbox)));
    })
    c.tell_sent.ensures.told

pub returns-in-Err-clause-runs : goal.returns-in-Err-clause-runs
returns-in-Err-clause-runs g c = λ source failed.
    rw (c.send.ensures.outbox, c.send.ensures.feed, c.send.ensures.cabinet, c.in-Err.ensures.err) (short_here _, record { posts = λ is. leaves_none _ _; output = refl })
