use Rattle.std.proofs.Common.{ap, inr, sym, ◌∙◌}
use Rattle.cabinet.specs.State.{State}
use Rattle.twin_words.proofs.Refusing.{opens_alone, refuses_marks}
use Rattle.twin_words.specs.Made.{change_of}
use Rattle.twin_words.proofs.opening.opened_follower.Goals as goal

pub opened_feed-requires-clause-ours : goal.opened_feed-requires-clause-ours
opened_feed-requires-clause-ours g c = rw (c.catalogue.ensures ∙ ap (λ (x : State). x.catalogue) c.in-Ok.ensures.opened.begins) c.requires.marks_ours

pub returns-in-Err-opened_feed-clause-refuses : goal.returns-in-Err-opened_feed-clause-refuses
returns-in-Err-opened_feed-clause-refuses g c =
    let o = c.in-Ok.ensures in
    let first = c.in-Ok.cabinet in
    let same = c.close_cache-cache.ensures.same in
    let e = c.in-Err-opened_feed in
    rw same (inr (
      opens_alone c.args.catalogue c.args.clock (g.D.Disk.told c.args.disk.now) _ (g.D.Disk.faults c.args.disk.now) (g.D.Disk.faults first.file.disk.disk.now) first.file.journal (g.D.Disk.state c.args.disk.now) (g.D.Disk.state first.file.disk.disk.now) first.state c.requires.valid o.opened o.told o.later o.settled (rw (sym same) c.close_cache-cache.ensures.closed),
      refuses_marks c.args.catalogue c.catalogue.result.now (change_of g.M.Disk.told g.M.Disk.state g.M.Disk.faults c.args.marks.now e.refusal.1.now) e.refusal.0 (c.catalogue.ensures ∙ ap (λ (x : State). x.catalogue) o.opened.begins) e.ensures.refused e.ensures.refused_quiet,
    ))
