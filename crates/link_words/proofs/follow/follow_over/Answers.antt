use Rattle.std.proofs.Common.{ap, arith, sym, ◌∙◌}
use Rattle.catalog.specs.declared.catalogue.Catalogue.{Catalogue}
use Rattle.gate_journal.specs.Sound.{digest_of}
use Rattle.feed_words.proofs.Opened.{closed_left}
use Rattle.link_words.proofs.Following.{followed}
use Rattle.link_words.proofs.follow.follow_over.Goals as goal

pub opened_marks-requires-clause-ours : goal.opened_marks-requires-clause-ours
opened_marks-requires-clause-ours g c = rw c.catalogue.ensures c.requires.ours

pub returns-in-Ok-copy-clause-follows : goal.returns-in-Ok-copy-clause-follows
returns-in-Ok-copy-clause-follows g c =
    let o = c.in-Ok.ensures in
    let work = c.follow_link-end in
    let same = c.closed_marks.ensures.same in
    let first = c.in-Ok.feed in
    let last = work.new.feed in
    let catalogue = (g.K.Keeper.state c.args.cabinet.now).catalogue in
    let digest = ap (λ (x : Catalogue). x.digest) c.catalogue.ensures in
    rw same
    (followed catalogue _ (g.D.Disk.state first.file.disk.disk.now)
    (record { stand = first.stand; faults = g.D.Disk.faults first.file.disk.disk.now; cabinet = g.K.Keeper.state c.args.cabinet.now; cabinet_faults = g.K.Keeper.faults c.args.cabinet.now })
    (g.D.Disk.told first.file.disk.disk.now) (digest_of first.file.journal) o.quiet o.told (o.digest ∙ digest)
    _ _ _
    (record { stand = last.stand; faults = g.D.Disk.faults last.file.disk.disk.now; cabinet = g.K.Keeper.state work.new.cabinet; cabinet_faults = g.K.Keeper.faults work.new.cabinet })
    work.result
    (rw c.catalogue.ensures at o.opened) o.sure
    (closed_left (g.D.Disk.told c.args.marks.now) (g.D.Disk.told last.file.disk.disk.now) catalogue.digest (digest_of last.file.journal) (g.D.Disk.state last.file.disk.disk.now) last.stand (work.ensures.told ∙ o.told) (work.ensures.digest ∙ o.digest ∙ digest) (rw (sym same) c.closed_marks.ensures.left))
    o.later (omega arith) (omega arith) (omega arith) work.ensures.follows)
