use Rattle.std.proofs.Common.{◌≡◌, refl, ap}
use Rattle.look_words.proofs.Telling.{job_unread, size_sent}
use Rattle.look_words.specs.Texts.{size_text}
use Rattle.look_words.proofs.dry_run.tell_job.Goals as goal
use Rattle.sessions.specs.Outside.{counts}

pub returns-in-Ok : goal.returns-in-Ok
returns-in-Ok g c = size_sent c.args.catalogue.now
    (record { reads = counts (g.I.ByteSource.faults c.args.input.now) (g.I.ByteSource.faults c.job_in.new.input); from = g.I.ByteSource.left c.args.input.now; to = g.I.ByteSource.left c.job_in.new.input })
    (record { writes = counts (g.O.ByteSink.faults c.args.output.now) (g.O.ByteSink.faults c.tell_size.new.output); from = g.O.ByteSink.taken c.args.output.now; to = g.O.ByteSink.taken c.tell_size.new.output })
    (c.tell_size.new.output ≡ c.args.output.now) c.in-Ok.job (size_text c.size_of.result) c.in-Ok.ensures.reads (ap size_text c.size_of.ensures.size) c.tell_size.result c.tell_size.ensures

pub returns-in-Err : goal.returns-in-Err
returns-in-Err g c = job_unread _ _ _ _ refl _ c.in-Err.ensures.reads
