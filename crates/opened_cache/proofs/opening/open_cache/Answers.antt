use Rattle.std.proofs.Common.{sym}
use Rattle.opened_cache.proofs.Lasting.{opening_lasts}
use Rattle.opened_cache.proofs.Refused.{refusal_leaves}
use Rattle.opened_cache.proofs.opening.open_cache.Goals as goal
use Rattle.sessions.specs.Outside.{counts}

pub open-requires-clause-ours : goal.open-requires-clause-ours
open-requires-clause-ours g c = rw c.new.ensures c.requires.ours

pub returns-in-Ok-clause-lasts : goal.returns-in-Ok-clause-lasts
returns-in-Ok-clause-lasts g c = λ told.
    opening_lasts c.args.catalogue (g.D.Disk.state c.args.disk.now) (g.D.Disk.state c.in-Ok.cabinet.file.disk.disk.now) (g.met.D.Disk.lawful c.args.disk.now told)
    (rw (sym c.new.ensures) (c.in-Ok.ensures.images (rw c.new.ensures told)))

pub returns-in-Err-clause-refused_lasts : goal.returns-in-Err-clause-refused_lasts
returns-in-Err-clause-refused_lasts g c = λ told.
    opening_lasts c.args.catalogue (g.D.Disk.state c.args.disk.now) (g.D.Disk.state c.into_disk.result.now) (g.met.D.Disk.lawful c.args.disk.now told)
    (rw (sym c.new.ensures, c.into_disk.ensures) (c.in-Err.ensures.images (rw c.new.ensures told)))

pub returns-in-Err-clause-refused_leaves : goal.returns-in-Err-clause-refused_leaves
returns-in-Err-clause-refused_leaves g c =
    refusal_leaves c.args.catalogue
    (record { told = g.D.Disk.told c.args.disk.now; faults = counts (g.D.Disk.faults c.args.disk.now) (g.D.Disk.faults c.into_disk.result.now); from = g.D.Disk.state c.args.disk.now; to = g.D.Disk.state c.into_disk.result.now })
    c.in-Err.refusal.0
    (rw (sym c.new.ensures, c.into_disk.ensures) c.in-Err.ensures.refused)
    (λ told. rw (sym c.new.ensures, c.into_disk.ensures) (c.in-Err.ensures.images (rw c.new.ensures told)))
