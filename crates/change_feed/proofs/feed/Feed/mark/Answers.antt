use Rattle.std.proofs.Common.{ℕ, ◌<◌, List, None, Some, IsTrue, subst, sym, ap, ◌∙◌, arith}
use Rattle.disk_model.specs.Images.{Every}
use Rattle.gate_journal.specs.Sound.{digest_of}
use Rattle.change_feed.specs.Files.{EndsIn}
use Rattle.change_feed.specs.Marks.{last_of}
use Rattle.change_feed.proofs.Imaging.{done_on, settled_now}
use Rattle.change_feed.proofs.feed.Feed.mark.Goals as goal

pub returns-in-Ok-clause-done : goal.returns-in-Ok-clause-done
returns-in-Ok-clause-done g c told =
    let i = c.self.inside in
    let f = i.file in
    let n = c.write_mark.new.file in
    let m = c.self.invariant in
    let is = subst (λ v. IsTrue (g.D.Disk.told v.file.disk)) (sym c.self.view_is) told in
    let on = m.on_disk is in
    let next : last_of i.mark < c.args.mark.number = omega (arith, c.requires.next, ap (λ v. last_of v.stand.mark) c.self.view_is) in
    let b = c.in-Ok.ensures.brings is i.mark next on.ends in
    let alike = c.in-Ok.ensures.alike in
    subst (λ (d : List ℕ). Every (g.D.Disk.state n.disk).may_leave (EndsIn d (Some c.args.mark))) (alike.same_digest ∙ ap (λ v. digest_of v.file.journal) c.self.view_is)
    (settled_now n.start n.journal n.behind (alike.same_slots ∙ m.same_slots) (record { mark = Some c.args.mark; undecided = None }) (g.D.Disk.state n.disk)
    (done_on c.in-Ok.field-0 None (Some c.args.mark) f.start f.journal n.journal (g.D.Disk.state f.disk) (g.D.Disk.state n.disk) b c.in-Ok.ensures.ok) c.in-Ok.ensures.ok)
