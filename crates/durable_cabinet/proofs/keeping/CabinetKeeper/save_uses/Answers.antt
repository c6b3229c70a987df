use Rattle.metatile_plan.specs.declared.metatile.MetaKey.{MetaKey}
use Rattle.cabinet.specs.declared.replies.Saved.TheVariants as saved
use Rattle.cabinet.specs.Commands.{Saves}
use Rattle.cabinet.proofs.Rows.{saves_known}
use Rattle.durable_cabinet.proofs.Lasting.{lasts_outlasts}
use Rattle.durable_cabinet.proofs.Sounding.{cache_of, saves_sound}
use Rattle.durable_cabinet.proofs.keeping.CabinetKeeper.save_uses.Goals as goal

pub returns-clause-lasts : goal.returns-clause-lasts
returns-clause-lasts g c =
    let a = c.args.self.now in
    let b = c.save_uses.new.self in
    lasts_outlasts (g.D.Disk.told a.file.disk) (g.D.Disk.told b.file.disk) (g.D.Disk.faults a.file.disk) (g.D.Disk.faults b.file.disk) a.state b.state (λ u. (m : MetaKey) × Saves a.state (saved.Done m) u) a.file.journal b.file.journal (g.D.Disk.state a.file.disk) (g.D.Disk.state b.file.disk) c.save_uses.ensures.told
    (cache_of a.state b.state (saves_known a.state b.state c.save_uses.result c.known.ensures c.save_uses.ensures.saves)) (λ u n. saves_known a.state u (saved.Done n.0) c.known.ensures n.1) c.save_uses.ensures.images c.save_uses.ensures.later c.save_uses.ensures.still

pub returns-clause-still_sound : goal.returns-clause-still_sound
returns-clause-still_sound g c sound = saves_sound c.args.self.now.state c.save_uses.new.self.state c.save_uses.result c.save_uses.ensures.saves sound
