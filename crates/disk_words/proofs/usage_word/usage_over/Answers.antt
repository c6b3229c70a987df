use Rattle.std.proofs.Common.{ap, inr, refl, sym, ◌++◌, ◌∙◌}
use Rattle.opened_cache.proofs.Closing.{has_opened}
use Rattle.opened_cache.proofs.Lasting.{worked}
use Rattle.disk_words.proofs.Telling.{usage_tells}
use Rattle.disk_words.proofs.Told.{opened_so}
use Rattle.disk_words.proofs.usage_word.usage_over.Goals as goal

pub returns-in-Ok-told_usage-clause-tells : goal.returns-in-Ok-told_usage-clause-tells
returns-in-Ok-told_usage-clause-tells g c =
    let same = c.close_cache-disk.ensures.same in
    let o = c.in-Ok.ensures in
    let work = c.told_usage in
    let faults = g.D.Disk.faults in
    let first = c.in-Ok.cabinet in
    let last = work.new.cabinet in
    let told = work.ensures.lasts.same_told ∙ o.told in
    rw same
    (usage_tells _ _ _ _ _ first.state (opened_so _ _ _ first.state last.state work.ensures.same (has_opened _ _ _ _ _ (faults c.args.disk.now) (faults first.file.disk.disk.now) (faults last.file.disk.disk.now) first.file.journal last.file.journal _ _ _ _ _ c.requires.valid o.opened work.ensures.lasts.same_catalogue told o.later o.settled work.ensures.lasts.settled (rw (sym same) c.close_cache-disk.ensures.closed)))
    _ (ap (λ x. x ++ c.bytes.result.now) c.new.ensures ∙ c.bytes.ensures ∙ c.in-Ok-told_usage.ensures.text) c.write_text.result c.write_text.ensures)

pub returns-in-Err-told_usage-clause-tells : goal.returns-in-Err-told_usage-clause-tells
returns-in-Err-told_usage-clause-tells g c =
    let same = c.close_cache.ensures.same in
    let o = c.in-Ok.ensures in
    let work = c.told_usage in
    let faults = g.D.Disk.faults in
    let first = c.in-Ok.cabinet in
    let last = work.new.cabinet in
    let told = work.ensures.lasts.same_told ∙ o.told in
    rw same (refl, inr (first.state, opened_so _ _ _ first.state last.state work.ensures.same (has_opened _ _ _ _ _ (faults c.args.disk.now) (faults first.file.disk.disk.now) (faults last.file.disk.disk.now) first.file.journal last.file.journal _ _ _ _ _ c.requires.valid o.opened work.ensures.lasts.same_catalogue told o.later o.settled work.ensures.lasts.settled (rw (sym same) c.close_cache.ensures.closed))))

pub returns-in-Ok-told_usage-clause-lasts : goal.returns-in-Ok-told_usage-clause-lasts
returns-in-Ok-told_usage-clause-lasts g c =
    rw c.close_cache-disk.ensures.same
    (worked _ _ _ _ _ _ _ _ _ _ _ _ _ _ _ (λ told. g.met.D.Disk.lawful c.args.disk.now told) c.in-Ok.ensures.opened c.in-Ok.ensures.lasts c.in-Ok.ensures.told c.told_usage.ensures.lasts)

pub returns-in-Err-told_usage-clause-lasts : goal.returns-in-Err-told_usage-clause-lasts
returns-in-Err-told_usage-clause-lasts g c =
    rw c.close_cache.ensures.same
    (worked _ _ _ _ _ _ _ _ _ _ _ _ _ _ _ (λ told. g.met.D.Disk.lawful c.args.disk.now told) c.in-Ok.ensures.opened c.in-Ok.ensures.lasts c.in-Ok.ensures.told c.told_usage.ensures.lasts)
