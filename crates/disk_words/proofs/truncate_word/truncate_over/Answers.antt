use Rattle.std.proofs.Common.{sym, ◌∙◌}
use Rattle.opened_cache.proofs.Closing.{has_opened}
use Rattle.opened_cache.proofs.Lasting.{worked}
use Rattle.disk_words.proofs.Telling.{cut_tells}
use Rattle.disk_words.proofs.truncate_word.truncate_over.Goals as goal

pub returns-in-Ok-clause-cuts : goal.returns-in-Ok-clause-cuts
returns-in-Ok-clause-cuts g c =
    let same = c.close_cache-disk.ensures.same in
    let o = c.in-Ok.ensures in
    let faults = g.D.Disk.faults in
    let first = c.in-Ok.cabinet in
    let last = c.cut-reply.new.self in
    let told = c.cut-reply.ensures.lasts.same_told ∙ o.told in
    rw same
    (cut_tells _ _ _ _ _ _ c.in-Ok.cabinet.state last.state (g.D.Disk.faults c.in-Ok.cabinet.file.disk.disk.now)
    (has_opened _ _ _ _ _ (faults c.args.disk.now) (faults first.file.disk.disk.now) (faults last.file.disk.disk.now) first.file.journal last.file.journal _ _ _ _ _ c.requires.valid o.opened c.cut-reply.ensures.lasts.same_catalogue told o.later o.settled c.cut-reply.ensures.lasts.settled (rw (sym same) c.close_cache-disk.ensures.closed)) o.later
    c.cut-reply.result c.cut-reply.ensures.cuts c.cut-reply.ensures.err c.cut-reply.ensures.counted c.told_cut.result c.told_cut.ensures)

pub returns-in-Ok-clause-lasts : goal.returns-in-Ok-clause-lasts
returns-in-Ok-clause-lasts g c =
    let o = c.in-Ok.ensures in
    rw c.close_cache-disk.ensures.same
    (worked _ _ _ _ _ _ _ _ _ _ _ _ _ _ _ (λ told. g.met.D.Disk.lawful c.args.disk.now told) o.opened o.lasts o.told c.cut-reply.ensures.lasts)
