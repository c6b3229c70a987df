use Rattle.cabinet.specs.declared.replies.Finished.TheVariants as finished
use Rattle.cabinet.specs.Commands.{Finishes}
use Rattle.cabinet.proofs.Rows.{finishes_known}
use Rattle.durable_cabinet.proofs.Lasting.{lasts_outlasts}
use Rattle.durable_cabinet.proofs.Sounding.{cache_of, finishes_sound}
use Rattle.durable_cabinet.proofs.keeping.CabinetKeeper.finish.Goals as goal

pub returns-clause-lasts : goal.returns-clause-lasts
returns-clause-lasts g c =
    let a = c.args.self.now in
    let b = c.finish.new.self in
    lasts_outlasts (g.D.Disk.told a.file.disk) (g.D.Disk.told b.file.disk) (g.D.Disk.faults a.file.disk) (g.D.Disk.faults b.file.disk) a.state b.state (λ u. Finishes a.state c.args.ticket c.args.blob finished.Kept u) a.file.journal b.file.journal (g.D.Disk.state a.file.disk) (g.D.Disk.state b.file.disk) c.finish.ensures.told
    (cache_of a.state b.state (finishes_known a.state b.state c.args.ticket c.args.blob c.finish.result c.known.ensures c.requires.blob c.finish.ensures.finished)) (λ u n. finishes_known a.state u c.args.ticket c.args.blob finished.Kept c.known.ensures c.requires.blob n) c.finish.ensures.images c.finish.ensures.later c.finish.ensures.still

pub returns-clause-sound : goal.returns-clause-sound
returns-clause-sound g c sound is = finishes_sound c.args.self.now.state c.finish.new.self.state c.args.ticket c.args.blob c.finish.result c.finish.ensures.finished sound is
