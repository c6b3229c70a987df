use Rattle.std.proofs.Common.{ap, inr, sym, ◌∙◌}
use Rattle.cabinet.specs.State.{State}
use Rattle.twin_words.proofs.Refusing.{opens_alone, refuses_outbox}
use Rattle.twin_words.specs.Made.{change_of}
use Rattle.twin_words.proofs.opening.opened_twin.Goals as goal

pub opened_outbox-requires-clause-ours : goal.opened_outbox-requires-clause-ours
opened_outbox-requires-clause-ours g c = rw (c.catalogue.ensures ∙ ap (λ (x : State). x.catalogue) c.in-Ok.ensures.opens.cache.begins) c.requires.outbox_ours

pub returns-in-Err-opened_outbox-clause-refuses : goal.returns-in-Err-opened_outbox-clause-refuses
returns-in-Err-opened_outbox-clause-refuses g c =
    let o = c.in-Ok.ensures in
    let first = c.in-Ok.follower.cabinet in
    let same = c.close_cache-cache.ensures.same in
    let e = c.in-Err-opened_outbox in
    rw (same, c.closed_marks-marks.ensures.same) (inr (
      opens_alone c.args.catalogue c.args.clock (g.D.Disk.told c.args.disk.now) _ (g.D.Disk.faults c.args.disk.now) (g.D.Disk.faults first.file.disk.disk.now) first.file.journal (g.D.Disk.state c.args.disk.now) (g.D.Disk.state first.file.disk.disk.now) first.state c.requires.valid o.opens.cache o.told o.later o.settled (rw (sym same) c.close_cache-cache.ensures.closed),
      o.opens.quiet,
      refuses_outbox c.args.catalogue c.catalogue.result.now (change_of g.N.Disk.told g.N.Disk.state g.N.Disk.faults c.args.outbox.now e.refusal.1.now) e.refusal.0 (c.catalogue.ensures ∙ ap (λ (x : State). x.catalogue) o.opens.cache.begins) e.ensures.refused e.ensures.refused_quiet,
    ))
