use Rattle.std.proofs.Common.{ap, arith, refl, sym, ◌∙◌}
use Rattle.catalog.specs.declared.catalogue.Catalogue.{Catalogue}
use Rattle.gate_journal.specs.Sound.{digest_of}
use Rattle.feed_words.proofs.Opened.{closed_left, feeds_on}
use Rattle.feed_words.proofs.feeding.feed_over.Goals as goal

pub opened_marks-requires-clause-ours : goal.opened_marks-requires-clause-ours
opened_marks-requires-clause-ours g c = rw c.catalogue.ensures c.requires.ours

pub returns-in-Ok-clause-feeds : goal.returns-in-Ok-clause-feeds
returns-in-Ok-clause-feeds g c =
    let o = c.in-Ok.ensures in
    let work = c.run_input-end in
    let same = c.closed_marks.ensures.same in
    let first = c.in-Ok.feed in
    let last = work.new.feed in
    let catalogue = (g.C.Keeper.state c.args.cabinet.now).catalogue in
    let digest = ap (λ (x : Catalogue). x.digest) c.catalogue.ensures in
    rw same
    (feeds_on catalogue _ _ _ _ _ _ (g.D.Disk.told first.file.disk.disk.now) (digest_of first.file.journal) (g.D.Disk.state first.file.disk.disk.now)
    (record { stand = first.stand; faults = g.D.Disk.faults first.file.disk.disk.now; cabinet = g.C.Keeper.state c.args.cabinet.now; cabinet_faults = g.C.Keeper.faults c.args.cabinet.now })
    (record { stand = last.stand; faults = g.D.Disk.faults last.file.disk.disk.now; cabinet = g.C.Keeper.state work.new.cabinet; cabinet_faults = g.C.Keeper.faults work.new.cabinet })
    (rw c.catalogue.ensures at o.opened) o.sure o.quiet o.told (o.digest ∙ digest)
    (closed_left (g.D.Disk.told c.args.marks.now) (g.D.Disk.told last.file.disk.disk.now) catalogue.digest (digest_of last.file.journal) (g.D.Disk.state last.file.disk.disk.now) last.stand (work.ensures.told ∙ o.told) (work.ensures.digest ∙ o.digest ∙ digest) (rw (sym same) c.closed_marks.ensures.left))
    o.later (omega arith) (omega arith) (omega arith) work.result work.ensures.runs refl)
