use Rattle.std.proofs.Common.{ap, sym, ◌∙◌}
use Rattle.cabinet.specs.State.{State}
use Rattle.opened_cache.proofs.Closing.{has_opened}
use Rattle.opened_cache.proofs.Lasting.{worked}
use Rattle.link_words.proofs.Ending.{followed_tells}
use Rattle.link_words.proofs.followed.followed_over.Goals as goal

pub follow_on-end-requires-clause-ours : goal.follow_on-end-requires-clause-ours
follow_on-end-requires-clause-ours g c = rw (ap (λ (x : State). x.catalogue) c.in-Ok.ensures.opened.begins) c.requires.marks

pub returns-in-Ok-clause-follows : goal.returns-in-Ok-clause-follows
returns-in-Ok-clause-follows g c =
    let same = c.close_cache.ensures.same in
    let o = c.in-Ok.ensures in
    let work = c.follow_on-end in
    let faults = g.D.Disk.faults in
    let first = c.in-Ok.cabinet in
    let last = work.new.cabinet in
    let outlasts = work.ensures.lasts.outlasts in
    let told = outlasts.same_told ∙ o.told in
    rw same
    (followed_tells _ _ _ _ _ _ _ _ first.state last.state (faults first.file.disk.disk.now)
    (has_opened _ _ _ _ _ (faults c.args.disk.now) (faults first.file.disk.disk.now) (faults last.file.disk.disk.now) first.file.journal last.file.journal _ _ _ _ _ c.requires.valid o.opened outlasts.same_catalogue told o.later o.settled outlasts.settled (rw (sym same) c.close_cache.ensures.closed))
    (ap (λ (x : State). x.catalogue) o.opened.begins) o.later work.result work.ensures.follows)

pub returns-in-Ok-clause-lasts : goal.returns-in-Ok-clause-lasts
returns-in-Ok-clause-lasts g c =
    let o = c.in-Ok.ensures in
    rw c.close_cache.ensures.same
    (worked _ _ _ _ _ _ _ _ _ _ _ _ _ _ _ (λ told. g.met.D.Disk.lawful c.args.disk.now told) o.opened o.lasts o.told c.follow_on-end.ensures.lasts.outlasts)
