use Rattle.std.proofs.Common.{IsTrue, subst}
use Rattle.disk_model.specs.Images.{Every}
use Rattle.gate_journal.specs.Sound.{IsSettled, digest_of}
use Rattle.change_feed.specs.Files.{EndsIn, IsBehind, MayEndIn}
use Rattle.change_feed.proofs.Imaging.{each_now, settled_now}
use Rattle.change_feed.proofs.feed.Feed.images.Goals as goal

pub returns-clause-each : goal.returns-clause-each
returns-clause-each g c =
    let i = c.self.inside in
    let f = i.file in
    let m = c.self.invariant in
    subst (λ v. IsTrue (g.D.Disk.told v.file.disk) → Every (g.D.Disk.state v.file.disk).may_leave (MayEndIn (digest_of v.file.journal) v.stand)) c.self.view_is
    (λ told. each_now f.start f.journal f.behind m.same_slots (record { mark = i.mark; undecided = i.undecided }) (g.D.Disk.state f.disk) (m.on_disk told))

pub returns-clause-settled : goal.returns-clause-settled
returns-clause-settled g c =
    let i = c.self.inside in
    let f = i.file in
    let m = c.self.invariant in
    subst (λ v. IsTrue (g.D.Disk.told v.file.disk) → IsSettled v.file.journal → Every (g.D.Disk.state v.file.disk).may_leave (EndsIn (digest_of v.file.journal) v.stand.mark)) c.self.view_is
    (λ told. settled_now f.start f.journal f.behind m.same_slots (record { mark = i.mark; undecided = i.undecided }) (g.D.Disk.state f.disk) (m.on_disk told))

pub returns-clause-behind : goal.returns-clause-behind
returns-clause-behind g c = subst (λ v. IsBehind v.stand.mark v.stand.undecided) c.self.view_is c.self.invariant.behind
