use Rattle.std.proofs.Common.{ℕ}
use Rattle.cabinet.specs.declared.replies.CutReply.TheVariants as reply
use Rattle.cabinet.specs.Commands.{Cuts}
use Rattle.cabinet.proofs.Rows.{cuts_known}
use Rattle.cabinet.proofs.Sounds.{cuts_sound}
use Rattle.durable_cabinet.proofs.Lasting.{lasts_outlasts}
use Rattle.durable_cabinet.proofs.Sounding.{cuts_same}
use Rattle.durable_cabinet.proofs.keeping.CabinetKeeper.cut.Goals as goal

pub returns-clause-lasts : goal.returns-clause-lasts
returns-clause-lasts g c =
    let a = c.args.self.now in
    let b = c.cut.new.self in
    let cover = c.args.cover.now in
    lasts_outlasts (g.D.Disk.told a.file.disk) (g.D.Disk.told b.file.disk) (g.D.Disk.faults a.file.disk) (g.D.Disk.faults b.file.disk) a.state b.state (λ u. (t : ℕ) × Cuts a.state cover (reply.Done t) u) a.file.journal b.file.journal (g.D.Disk.state a.file.disk) (g.D.Disk.state b.file.disk) c.cut.ensures.told
    (cuts_same a.state b.state cover c.cut.result c.known.ensures c.requires c.cut.ensures.cuts c.cut.ensures.err) (λ u n. cuts_known a.state u cover (reply.Done n.0) c.known.ensures c.requires n.1) c.cut.ensures.images c.cut.ensures.later c.cut.ensures.still

pub returns-clause-still_sound : goal.returns-clause-still_sound
returns-clause-still_sound g c = cuts_sound c.args.self.now.state c.cut.new.self.state c.args.cover.now c.cut.result c.cut.ensures.cuts c.cut.ensures.err
