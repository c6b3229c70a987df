use Rattle.std.proofs.Common.{IsTrue, subst}
use Rattle.disk_model.specs.Images.{Every}
use Rattle.gate_journal.specs.Sound.{IsSettled}
use Rattle.outbox.specs.Files.{MayOpenTo, OpensToPosts}
use Rattle.outbox.proofs.Imaging.{each_now, settled_now}
use Rattle.outbox.proofs.outbox.Outbox.images.Goals as goal

pub returns-clause-each : goal.returns-clause-each
returns-clause-each g c =
    let i = c.self.inside in
    let f = i.file in
    let m = c.self.invariant in
    subst (λ v. IsTrue (g.D.Disk.told v.file.disk) → Every (g.D.Disk.state v.file.disk).may_leave (MayOpenTo v.catalogue v.out)) c.self.view_is
    (λ told. each_now i.catalogue.value f.start f.journal f.behind m.same_slots m.same_digest (record { posts = i.posts.items; undecided = i.undecided; heard = i.heard }) (g.D.Disk.state f.disk) (m.on_disk told))

pub returns-clause-settled : goal.returns-clause-settled
returns-clause-settled g c =
    let i = c.self.inside in
    let f = i.file in
    let m = c.self.invariant in
    subst (λ v. IsTrue (g.D.Disk.told v.file.disk) → IsSettled v.file.journal → Every (g.D.Disk.state v.file.disk).may_leave (λ image. OpensToPosts v.catalogue image v.out.posts)) c.self.view_is
    (λ told. settled_now i.catalogue.value f.start f.journal f.behind m.same_slots m.same_digest (record { posts = i.posts.items; undecided = i.undecided; heard = i.heard }) (g.D.Disk.state f.disk) (m.on_disk told))
