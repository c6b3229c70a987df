use Rattle.std.specs.Prelude.{Ok, Err}
use Rattle.outbox.specs.declared.packet.Packet.TheVariants as packets
use Rattle.change_feed.specs.declared.change.Change.{Change}
use Rattle.twin_events.specs.Carries.{Counts, counts}
use Rattle.twin_events.specs.Twins.{TwinStanding, standing}
use Rattle.twin_events.proofs.Bringing.{found_as, hears_row, takes_none, takes_ready, takes_row}
use Rattle.twin_events.proofs.Leading.{still_ready}
use Rattle.twin_events.proofs.twin.Twin.carry.Goals as goal

pub returns-in-Some-Seen-clause-carries : goal.returns-in-Some-Seen-clause-carries
returns-in-Some-Seen-clause-carries g c =
    let v = c.args.self.now in let K = g.K.Keeper in let s : TwinStanding = standing v.outbox.out v.feed.stand (K.state v.cabinet) v.sent.items in
    let n : Counts = counts (g.M.Disk.faults v.feed.file.disk) (K.faults v.cabinet) in
    let x = c.in-Some-Seen in
    let found = found_as v.sent.items c.deref.result.now c.args.place x.field-0 (packets.Seen x.number) c.deref.ensures.value x.field-0-is x.ensures in
    hears_row s n c.args.place found.0 x.number c.hear.new.outbox.out c.hear.result found.1 c.hear.ensures.hears

pub returns-in-Some-Seen-clause-ready : goal.returns-in-Some-Seen-clause-ready
returns-in-Some-Seen-clause-ready g c =
    let v = c.args.self.now in let s : TwinStanding = standing v.outbox.out v.feed.stand (g.K.Keeper.state v.cabinet) v.sent.items in
    still_ready v.outbox.catalogue c.hear.new.outbox.catalogue s c.hear.new.outbox.out c.hear.ensures.catalogue c.requires.ready

pub returns-in-Ok-clause-carries : goal.returns-in-Ok-clause-carries
returns-in-Ok-clause-carries g c =
    let v = c.args.self.now in let K = g.K.Keeper in let s : TwinStanding = standing v.outbox.out v.feed.stand (K.state v.cabinet) v.sent.items in
    let before : Counts = counts (g.M.Disk.faults v.feed.file.disk) (K.faults v.cabinet) in
    let t = c.take_change.new in let after : Counts = counts (g.M.Disk.faults t.feed.file.disk) (K.faults t.cabinet) in
    let x = c.in-Some-Change in let change : Change = record { number = x.number; cover = x.cover } in
    let found = found_as v.sent.items c.deref.result.now c.args.place x.field-0 (packets.Change x.number x.cover) c.deref.ensures.value x.field-0-is x.ensures in
    takes_row v.outbox.catalogue s before c.args.place found.0 change t.feed.stand (K.state t.cabinet) t.sent.items after c.requires.ready found.1 c.in-Ok.carried c.in-Ok.ensures.takes

pub returns-in-Err-clause-err : goal.returns-in-Err-clause-err
returns-in-Err-clause-err g c =
    let v = c.args.self.now in let K = g.K.Keeper in let s : TwinStanding = standing v.outbox.out v.feed.stand (K.state v.cabinet) v.sent.items in
    let before : Counts = counts (g.M.Disk.faults v.feed.file.disk) (K.faults v.cabinet) in
    let t = c.take_change.new in let after : Counts = counts (g.M.Disk.faults t.feed.file.disk) (K.faults t.cabinet) in
    let x = c.in-Some-Change in let change : Change = record { number = x.number; cover = x.cover } in
    let found = found_as v.sent.items c.deref.result.now c.args.place x.field-0 (packets.Change x.number x.cover) c.deref.ensures.value x.field-0-is x.ensures in
    takes_none v.outbox.catalogue s before c.args.place found.0 change t.feed.stand (K.state t.cabinet) t.sent.items after c.requires.ready found.1 c.in-Err.fault c.in-Err.ensures.takes

pub returns-in-Ok-clause-ready : goal.returns-in-Ok-clause-ready
returns-in-Ok-clause-ready g c =
    let v = c.args.self.now in let K = g.K.Keeper in let s : TwinStanding = standing v.outbox.out v.feed.stand (K.state v.cabinet) v.sent.items in
    let before : Counts = counts (g.M.Disk.faults v.feed.file.disk) (K.faults v.cabinet) in
    let t = c.take_change.new in let after : Counts = counts (g.M.Disk.faults t.feed.file.disk) (K.faults t.cabinet) in
    let x = c.in-Some-Change in let change : Change = record { number = x.number; cover = x.cover } in
    let found = found_as v.sent.items c.deref.result.now c.args.place x.field-0 (packets.Change x.number x.cover) c.deref.ensures.value x.field-0-is x.ensures in
    takes_ready v.outbox.catalogue s before c.args.place found.0 change t.feed.stand (K.state t.cabinet) t.sent.items after c.requires.ready found.1 (Ok c.in-Ok.carried) c.in-Ok.ensures.takes c.in-Ok.ensures.goes.same_catalogue

pub returns-in-Err-clause-ready : goal.returns-in-Err-clause-ready
returns-in-Err-clause-ready g c =
    let v = c.args.self.now in let K = g.K.Keeper in let s : TwinStanding = standing v.outbox.out v.feed.stand (K.state v.cabinet) v.sent.items in
    let before : Counts = counts (g.M.Disk.faults v.feed.file.disk) (K.faults v.cabinet) in
    let t = c.take_change.new in let after : Counts = counts (g.M.Disk.faults t.feed.file.disk) (K.faults t.cabinet) in
    let x = c.in-Some-Change in let change : Change = record { number = x.number; cover = x.cover } in
    let found = found_as v.sent.items c.deref.result.now c.args.place x.field-0 (packets.Change x.number x.cover) c.deref.ensures.value x.field-0-is x.ensures in
    takes_ready v.outbox.catalogue s before c.args.place found.0 change t.feed.stand (K.state t.cabinet) t.sent.items after c.requires.ready found.1 (Err c.in-Err.fault) c.in-Err.ensures.takes c.in-Err.ensures.goes.same_catalogue
