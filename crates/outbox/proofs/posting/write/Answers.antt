use Rattle.outbox.proofs.Recorded.{added_written, undecided_written, unready_written}
use Rattle.outbox.proofs.posting.write.Goals as goal

pub returns-in-Err-clause-posts : goal.returns-in-Err-clause-posts
returns-in-Err-clause-posts g c catalogue s m one at =
    let f = c.args.file.now in
    let n = c.settle.new.file in
    unready_written (g.D.Disk.told f.disk) (g.D.Disk.told n.disk) c.settle.ensures.told catalogue s f.start f.journal n.journal (g.D.Disk.state f.disk) (g.D.Disk.state n.disk) c.settle.ensures.alike m f.behind c.settle.ensures.room c.args.cover.now
    c.in-Err.field-0 c.in-Err.ensures.brings c.in-Err.ensures.err

pub returns-in-Err-record-clause-posts : goal.returns-in-Err-record-clause-posts
returns-in-Err-record-clause-posts g c catalogue s m one at =
    let f = c.args.file.now in
    let n = c.settle.new.file in
    let l = c.record.new.self in
    undecided_written (g.D.Disk.told f.disk) (g.D.Disk.told n.disk) c.settle.ensures.told catalogue s f.start f.journal n.journal (g.D.Disk.state f.disk) (g.D.Disk.state n.disk) c.settle.ensures.alike m f.behind c.settle.ensures.room c.args.cover.now
    c.in-Ok.field-0 c.in-Ok.ensures.brings c.in-Ok.ensures.ok (g.D.Disk.told l.disk) c.record.ensures.told n.start l.start l.journal (g.D.Disk.state l.disk) c.record.ensures.alike n.behind l.behind one c.args.number at c.body_for.result c.body_for.ensures
    c.in-Err-record.field-0 c.in-Err-record.ensures.brings c.in-Err-record.ensures.err.1 c.in-Err-record.ensures.err.0

pub returns-in-Ok-record-clause-posts : goal.returns-in-Ok-record-clause-posts
returns-in-Ok-record-clause-posts g c catalogue s m one at =
    let f = c.args.file.now in
    let n = c.settle.new.file in
    let l = c.record.new.self in
    added_written (g.D.Disk.told f.disk) (g.D.Disk.told n.disk) c.settle.ensures.told catalogue s f.start f.journal n.journal (g.D.Disk.state f.disk) (g.D.Disk.state n.disk) c.settle.ensures.alike m f.behind c.settle.ensures.room c.args.cover.now
    c.in-Ok.field-0 c.in-Ok.ensures.brings c.in-Ok.ensures.ok (g.D.Disk.told l.disk) c.record.ensures.told n.start l.start l.journal (g.D.Disk.state l.disk) c.record.ensures.alike n.behind l.behind one c.args.number at c.body_for.result c.body_for.ensures
    c.in-Ok-record.field-0 c.in-Ok-record.ensures.brings c.in-Ok-record.ensures.ok.1 c.in-Ok-record.ensures.ok.0
