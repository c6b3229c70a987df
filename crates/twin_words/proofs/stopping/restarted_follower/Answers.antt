use Rattle.std.proofs.Common.{ap, refl, subst, sym, ◌∙◌}
use Rattle.cabinet.specs.State.{State}
use Rattle.tile_service.specs.Session.{IsAtRest}
use Rattle.catalog.specs.declared.catalogue.Catalogue.{Catalogue}
use Rattle.gate_journal.specs.Sound.{IsSettled, digest_of}
use Rattle.twin_events.specs.Twins.{standing}
use Rattle.twin_words.proofs.Restarting.{follower_closed, follower_restarts, starved_follower}
use Rattle.twin_words.proofs.stopping.restarted_follower.Goals as goal

pub opened_follower-requires-clause-ours : goal.opened_follower-requires-clause-ours
opened_follower-requires-clause-ours g c =
    let disk = c.closed_with_clock-disk.result.disk.now in
    λ told. rw (c.in-Ok.ensures ∙ c.catalogue.ensures) (c.closed_with_clock-disk.ensures.closed.left told (g.D.Disk.state disk).seen (g.met.D.Disk.lawful disk told).reads_as).ours

pub opened_follower-requires-clause-marks_ours : goal.opened_follower-requires-clause-marks_ours
opened_follower-requires-clause-marks_ours g c =
    let disk = c.closed_marks-marks.result.now in
    let asked = ap (λ (x : Catalogue). x.digest) (c.in-Ok.ensures ∙ c.catalogue.ensures ∙ c.requires.ready.same) ∙ sym c.requires.digest in
    λ told. rw asked (c.laws_of_marks.ensures.ours (digest_of c.args.twin.feed.file.journal) c.args.twin.feed.stand (g.M.Disk.state disk).seen (c.closed_marks-marks.ensures.left told (g.M.Disk.state disk).seen (g.met.M.Disk.lawful disk told).reads_as))

pub returns-in-Ok-opened_follower-clause-restarts : goal.returns-in-Ok-opened_follower-clause-restarts
returns-in-Ok-opened_follower-clause-restarts g c = λ source failed.
    let twin = c.args.twin in
    let r = c.requires.ready in
    let o = c.in-Ok-opened_follower.ensures in
    let f = c.in-Ok-opened_follower.follower in
    let same = c.closed_with_clock-disk.ensures.same in
    let marks_same = c.closed_marks-marks.ensures.same in
    let asked = c.in-Ok.ensures ∙ c.catalogue.ensures ∙ r.same in
    let told = g.D.Disk.told in
    let m_told = g.M.Disk.told in
    let o_told = g.N.Disk.told in
    let state = g.D.Disk.state in
    let m_state = g.M.Disk.state in
    let o_state = g.N.Disk.state in
    let faults = g.D.Disk.faults in
    let m_faults = g.M.Disk.faults in
    let o_faults = g.N.Disk.faults in
    let cache = twin.cabinet.file.disk.disk.now in
    let marks = twin.feed.file.disk.disk.now in
    let outbox = twin.outbox.file.disk.disk.now in
    let then_cache = f.cabinet.file.disk.disk.now in
    let then_marks = f.feed.file.disk.disk.now in
    follower_restarts twin.outbox.catalogue (told cache) (m_told marks) (o_told outbox) (state cache) (state then_cache) (m_state marks) (m_state then_marks) (o_state outbox) (faults cache) (faults then_cache) (m_faults marks) (m_faults then_marks) (o_faults outbox) failed
    (standing twin.outbox.out twin.feed.stand twin.cabinet.state twin.sent.items) (standing twin.outbox.out f.feed.stand f.cabinet.state twin.sent.items)
    (λ is. g.met.D.Disk.lawful cache is) (λ is. g.met.M.Disk.lawful marks is) r.same twin.cabinet.file.journal (rw same at c.closed_with_clock-disk.ensures.closed) (digest_of twin.feed.file.journal) c.requires.digest (rw marks_same at c.closed_marks-marks.ensures.left)
    c.laws_of_marks.ensures.either source c.closed_with_clock-disk.result.clock (IsSettled f.cabinet.file.journal) r.valid o.known o.settled (rw (same, marks_same, asked) at o.opens) refl refl (rw same at o.later) (rw marks_same at o.marks_later)

pub returns-in-Err-opened_follower-clause-closed : goal.returns-in-Err-opened_follower-clause-closed
returns-in-Err-opened_follower-clause-closed g c = λ failed.
    let twin = c.args.twin in
    let r = c.requires.ready in
    let e = c.in-Err-opened_follower.ensures in
    let refusal = c.in-Err-opened_follower.refusal in
    let same = c.closed_with_clock-disk.ensures.same in
    let marks_same = c.closed_marks-marks.ensures.same in
    let asked = c.in-Ok.ensures ∙ c.catalogue.ensures ∙ r.same in
    let told = g.D.Disk.told in
    let m_told = g.M.Disk.told in
    let o_told = g.N.Disk.told in
    let state = g.D.Disk.state in
    let m_state = g.M.Disk.state in
    let o_state = g.N.Disk.state in
    let faults = g.D.Disk.faults in
    let m_faults = g.M.Disk.faults in
    let o_faults = g.N.Disk.faults in
    let cache = twin.cabinet.file.disk.disk.now in
    let marks = twin.feed.file.disk.disk.now in
    let outbox = twin.outbox.file.disk.disk.now in
    let then_cache = refusal.cache.now in
    let then_marks = refusal.marks.now in
    let s = standing twin.outbox.out twin.feed.stand twin.cabinet.state twin.sent.items in
    rw c.closed_outbox-outbox.ensures.same
    (follower_closed twin.outbox.catalogue (told cache) (m_told marks) (o_told outbox) (state cache) (state then_cache) (m_state marks) (m_state then_marks) (o_state outbox) (faults cache) (faults then_cache) (m_faults marks) (m_faults then_marks) (o_faults outbox) failed s s
    (λ is. g.met.D.Disk.lawful cache is) (λ is. g.met.M.Disk.lawful marks is) r.same twin.cabinet.file.journal (rw same at c.closed_with_clock-disk.ensures.closed) (digest_of twin.feed.file.journal) c.requires.digest (rw marks_same at c.closed_marks-marks.ensures.left)
    refusal.cause _ (λ is. g.met.D.Disk.lawful then_cache (e.refused_told ∙ ap told same ∙ is)) (λ is. g.met.N.Disk.lawful outbox is) (rw (same, marks_same, asked, c.closed_with_clock-disk.ensures.clock) at e.refuses) (rw (same, asked) at e.refused_leaves) (rw marks_same at e.refused_quiet) (rw c.closed_outbox-outbox.ensures.same at c.closed_outbox-outbox.ensures.left))

pub returns-in-Err-clause-closed : goal.returns-in-Err-clause-closed
returns-in-Err-clause-closed g c = λ failed.
    let twin = c.args.twin in
    let e = c.closed_twin.ensures in
    let told = g.D.Disk.told in
    let m_told = g.M.Disk.told in
    let o_told = g.N.Disk.told in
    let state = g.D.Disk.state in
    let m_state = g.M.Disk.state in
    let o_state = g.N.Disk.state in
    let faults = g.D.Disk.faults in
    let m_faults = g.M.Disk.faults in
    let o_faults = g.N.Disk.faults in
    let cache = twin.cabinet.file.disk.disk.now in
    let marks = twin.feed.file.disk.disk.now in
    let outbox = twin.outbox.file.disk.disk.now in
    rw (e.same, e.marks_same, e.outbox_same)
    (starved_follower twin.outbox.catalogue (told cache) (m_told marks) (o_told outbox) (state cache) (m_state marks) (o_state outbox) (faults cache) (m_faults marks) (o_faults outbox) failed (standing twin.outbox.out twin.feed.stand twin.cabinet.state twin.sent.items) twin.cabinet.file.journal (digest_of twin.feed.file.journal)
    (λ is. g.met.D.Disk.lawful cache is) (λ is. g.met.M.Disk.lawful marks is) (λ is. g.met.N.Disk.lawful outbox is) c.requires.ready.same c.requires.digest (rw e.same at e.closed) (rw e.marks_same at e.marks) (rw e.outbox_same at e.outbox))

pub returns-in-Ok-opened_follower-clause-ready : goal.returns-in-Ok-opened_follower-clause-ready
returns-in-Ok-opened_follower-clause-ready g c =
    let r = c.requires.ready in
    let begins = c.in-Ok-opened_follower.ensures.opens.cache.begins in
    record {
      valid = r.valid;
      same = ap (λ (x : State). x.catalogue) begins ∙ (c.in-Ok.ensures ∙ c.catalogue.ensures ∙ r.same);
      rests = subst IsAtRest (sym begins) refl;
      served = r.served;
    }
