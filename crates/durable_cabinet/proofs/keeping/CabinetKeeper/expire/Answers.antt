use Rattle.metatile_plan.specs.declared.metatile.MetaKey.{MetaKey}
use Rattle.cabinet.specs.declared.replies.Expired.TheVariants as expired
use Rattle.cabinet.specs.Commands.{Expires}
use Rattle.cabinet.proofs.Rows.{expires_known}
use Rattle.durable_cabinet.proofs.Lasting.{lasts_outlasts}
use Rattle.durable_cabinet.proofs.Sounding.{cache_of, expires_sound}
use Rattle.durable_cabinet.proofs.keeping.CabinetKeeper.expire.Goals as goal

pub returns-clause-lasts : goal.returns-clause-lasts
returns-clause-lasts g c =
    let a = c.args.self.now in
    let b = c.expire.new.self in
    lasts_outlasts (g.D.Disk.told a.file.disk) (g.D.Disk.told b.file.disk) (g.D.Disk.faults a.file.disk) (g.D.Disk.faults b.file.disk) a.state b.state (λ u. (m : MetaKey) × Expires a.state (expired.Dropped m) u) a.file.journal b.file.journal (g.D.Disk.state a.file.disk) (g.D.Disk.state b.file.disk) c.expire.ensures.told
    (cache_of a.state b.state (expires_known a.state b.state c.expire.result c.known.ensures c.expire.ensures.expires)) (λ u n. expires_known a.state u (expired.Dropped n.0) c.known.ensures n.1) c.expire.ensures.images c.expire.ensures.later c.expire.ensures.still

pub returns-clause-still_sound : goal.returns-clause-still_sound
returns-clause-still_sound g c sound = expires_sound c.args.self.now.state c.expire.new.self.state c.expire.result c.expire.ensures.expires sound
