use Rattle.std.proofs.Common.{sym, ◌∙◌}
use Rattle.opened_cache.proofs.Closing.{has_opened}
use Rattle.opened_cache.proofs.Lasting.{worked}
use Rattle.disk_words.proofs.Dropping.{drop_tells}
use Rattle.disk_words.proofs.expire_word.expire_over.Goals as goal

pub returns-in-Ok-clause-drops : goal.returns-in-Ok-clause-drops
returns-in-Ok-clause-drops g c =
    let same = c.close_cache-disk.ensures.same in
    let o = c.in-Ok.ensures in
    let work = c.drop_all-dropped in
    let faults = g.D.Disk.faults in
    let first = c.in-Ok.cabinet in
    let last = work.new.cabinet in
    let told = work.ensures.lasts.same_told ∙ o.told in
    rw same
    (drop_tells _ _ _ _ _ c.in-Ok.cabinet.state work.new.cabinet.state (g.D.Disk.faults c.in-Ok.cabinet.file.disk.disk.now)
    (has_opened _ _ _ _ _ (faults c.args.disk.now) (faults first.file.disk.disk.now) (faults last.file.disk.disk.now) first.file.journal last.file.journal _ _ _ _ _ c.requires.valid o.opened work.ensures.lasts.same_catalogue told o.later o.settled work.ensures.lasts.settled (rw (sym same) c.close_cache-disk.ensures.closed)) o.later
    work.result work.ensures.all work.ensures.failed work.ensures.dropped c.told_dropped.result c.told_dropped.ensures)

pub returns-in-Ok-clause-lasts : goal.returns-in-Ok-clause-lasts
returns-in-Ok-clause-lasts g c =
    let o = c.in-Ok.ensures in
    rw c.close_cache-disk.ensures.same
    (worked _ _ _ _ _ _ _ _ _ _ _ _ _ _ _ (λ told. g.met.D.Disk.lawful c.args.disk.now told) o.opened o.lasts o.told c.drop_all-dropped.ensures.lasts)
