use Rattle.std.proofs.Common.{refl, ◌∙◌}
use Rattle.gate_journal.specs.Sound.{IsSettled, digest_of}
use Rattle.twin_events.specs.Twins.{standing}
use Rattle.twin_words.proofs.Refusing.{refuses_outbox}
use Rattle.twin_words.proofs.Restarting.{leader_closed, leader_restarts}
use Rattle.twin_words.specs.Made.{change_of}
use Rattle.twin_words.proofs.stopping.restarted_leader.Goals as goal

pub opened_outbox-requires-clause-ours : goal.opened_outbox-requires-clause-ours
opened_outbox-requires-clause-ours g c =
    let disk = c.closed_outbox-disk.result.now in
    λ told. rw (c.catalogue.ensures ∙ c.requires.ready.same) (c.laws_of_outboxes.ensures.ours c.args.twin.outbox.catalogue c.args.twin.outbox.out (g.N.Disk.state disk).seen (c.closed_outbox-disk.ensures.left told (g.N.Disk.state disk).seen (g.met.N.Disk.lawful disk told).reads_as))

pub returns-in-Ok-clause-ready : goal.returns-in-Ok-clause-ready
returns-in-Ok-clause-ready g c =
    let r = c.requires.ready in
    rw (c.in-Ok.ensures.catalogue ∙ c.catalogue.ensures ∙ r.same) (record { valid = r.valid; same = r.same; rests = r.rests; served = r.served })

pub returns-in-Ok-clause-restarts : goal.returns-in-Ok-clause-restarts
returns-in-Ok-clause-restarts g c = λ source failed.
    let twin = c.args.twin in
    let o = c.in-Ok.ensures in
    let then_outbox = c.in-Ok.outbox in
    let same = c.closed_outbox-disk.ensures.same in
    let asked = c.catalogue.ensures ∙ c.requires.ready.same in
    let told = g.D.Disk.told in
    let m_told = g.M.Disk.told in
    let o_told = g.N.Disk.told in
    let state = g.D.Disk.state in
    let m_state = g.M.Disk.state in
    let o_state = g.N.Disk.state in
    let faults = g.D.Disk.faults in
    let m_faults = g.M.Disk.faults in
    let o_faults = g.N.Disk.faults in
    let cache = twin.cabinet.file.disk.disk.now in
    let marks = twin.feed.file.disk.disk.now in
    let outbox = twin.outbox.file.disk.disk.now in
    let then_disk = then_outbox.file.disk.disk.now in
    leader_restarts twin.outbox.catalogue (told cache) (m_told marks) (o_told outbox) (state cache) (m_state marks) (o_state outbox) (o_state then_disk) (faults cache) (m_faults marks) (o_faults outbox) (o_faults then_disk) failed
    (standing twin.outbox.out twin.feed.stand twin.cabinet.state twin.sent.items) (standing then_outbox.out twin.feed.stand twin.cabinet.state twin.sent.items)
    c.laws_of_outboxes.ensures.found source (IsSettled twin.cabinet.file.journal) refl refl refl (λ is. g.met.N.Disk.lawful outbox is) (rw same at c.closed_outbox-disk.ensures.left) (rw (same, asked) at o.opened) o.sure o.silent (rw same at o.quiet) (rw same at o.later)

pub returns-in-Err-clause-closed : goal.returns-in-Err-clause-closed
returns-in-Err-clause-closed g c = λ failed.
    let twin = c.args.twin in
    let e = c.in-Err in
    let same = c.closed_outbox-disk.ensures.same in
    let asked = c.catalogue.ensures ∙ c.requires.ready.same in
    let told = g.D.Disk.told in
    let m_told = g.M.Disk.told in
    let o_told = g.N.Disk.told in
    let state = g.D.Disk.state in
    let m_state = g.M.Disk.state in
    let o_state = g.N.Disk.state in
    let faults = g.D.Disk.faults in
    let m_faults = g.M.Disk.faults in
    let o_faults = g.N.Disk.faults in
    let cache = twin.cabinet.file.disk.disk.now in
    let marks = twin.feed.file.disk.disk.now in
    let outbox = twin.outbox.file.disk.disk.now in
    let then_disk = e.refusal.1.now in
    let s = standing twin.outbox.out twin.feed.stand twin.cabinet.state twin.sent.items in
    rw (c.close_cache.ensures.same, c.closed_marks.ensures.same)
    (leader_closed twin.outbox.catalogue (told cache) (m_told marks) (o_told outbox) (state cache) (m_state marks) (o_state outbox) (o_state then_disk) (faults cache) (m_faults marks) (o_faults outbox) (o_faults then_disk) failed s s e.refusal.0 twin.cabinet.file.journal (digest_of twin.feed.file.journal)
    (λ is. g.met.D.Disk.lawful cache is) (λ is. g.met.M.Disk.lawful marks is) (λ is. g.met.N.Disk.lawful outbox is) c.requires.ready.same c.requires.digest (rw c.close_cache.ensures.same at c.close_cache.ensures.closed) (rw c.closed_marks.ensures.same at c.closed_marks.ensures.left) (rw same at c.closed_outbox-disk.ensures.left)
    (refuses_outbox twin.outbox.catalogue c.catalogue.result.now (change_of o_told o_state o_faults outbox then_disk) e.refusal.0 asked (rw same at e.ensures.refused) (rw same at e.ensures.refused_quiet)))
