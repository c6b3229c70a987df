use Rattle.blob_store.proofs.Parts.{blob_kept, on_ok_both}
use Rattle.blob_store.proofs.putting.put.Goals as goal

pub returns-clause-put : goal.returns-clause-put
returns-clause-put g c told =
    let old = g.D.Disk.state c.args.disk.now in
    let new = g.D.Disk.state c.write_through_of.new.disk in
    on_ok_both c.write_through_of.result (c.write_through_of.ensures.written told) (c.write_through_of.ensures.durable told) (blob_kept c.args.place c.args.bytes.now old.seen new.seen new.may_leave)
