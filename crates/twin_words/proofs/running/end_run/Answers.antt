use Rattle.gate_journal.specs.Sound.{digest_of}
use Rattle.twin_words.proofs.Restarting.{closed_left, leaves_twin, marks_left}
use Rattle.twin_words.proofs.running.end_run.Goals as goal

pub returns-clause-left : goal.returns-clause-left
returns-clause-left g c =
    let twin = c.args.twin in
    let e = c.closed_twin.ensures in
    let told = g.D.Disk.told in
    let m_told = g.M.Disk.told in
    let o_told = g.N.Disk.told in
    let state = g.D.Disk.state in
    let m_state = g.M.Disk.state in
    let o_state = g.N.Disk.state in
    let cache = twin.cabinet.file.disk.disk.now in
    let marks = twin.feed.file.disk.disk.now in
    rw (e.same, e.marks_same, e.outbox_same)
    (leaves_twin twin.outbox.catalogue _ _ _ _ c.requires.same
    (closed_left twin.outbox.catalogue (told cache) twin.cabinet.file.journal (state cache) twin.cabinet.state c.requires.same (rw e.same at e.closed))
    (marks_left (m_told marks) (digest_of twin.feed.file.journal) twin.outbox.catalogue.digest (m_state marks) twin.feed.stand c.requires.digest (rw e.marks_same at e.marks))
    (rw e.outbox_same at e.outbox))
