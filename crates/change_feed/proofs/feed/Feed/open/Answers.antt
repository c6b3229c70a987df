use Rattle.change_feed.proofs.Reached.{is_marked, opens_to_bad, opens_to_marks}
use Rattle.change_feed.proofs.feed.Feed.open.Goals as goal

pub invariant_of-result : goal.invariant_of-result
invariant_of-result g c =
    let f = c.in-Ok.file in
    let told = g.D.Disk.told c.args.marks in
    is_marked told c.args.catalogue.now.digest (g.D.Disk.state c.args.marks) (g.D.Disk.state f.disk) c.new-reader.result c.open.new.visit f.journal c.new-reader.ensures c.in-Ok.ensures.opened
    c.in-Ok-found.mark (g.D.Disk.told f.disk) c.in-Ok-found.ensures c.in-Ok.ensures.told c.requires.ours c.in-Ok.ensures.quiet

pub returns-in-Ok-found-clause-opened : goal.returns-in-Ok-found-clause-opened
returns-in-Ok-found-clause-opened g c is =
    let f = c.in-Ok.file in
    let told = g.D.Disk.told c.args.marks in
    let opens =
    opens_to_marks told c.args.catalogue.now.digest (g.D.Disk.state c.args.marks) (g.D.Disk.state f.disk) c.new-reader.result c.open.new.visit f.journal c.new-reader.ensures c.in-Ok.ensures.opened c.in-Ok-found.mark c.in-Ok-found.ensures is
    in
    record { opens = opens; whole = c.requires.ours is c.in-Ok-found.mark opens }

pub returns-in-Err-found-clause-refused : goal.returns-in-Err-found-clause-refused
returns-in-Err-found-clause-refused g c =
    let f = c.in-Ok.file in
    let told = g.D.Disk.told c.args.marks in
    opens_to_bad told c.args.catalogue.now.digest (g.D.Disk.state c.args.marks) (g.D.Disk.state f.disk) c.new-reader.result c.open.new.visit f.journal c.new-reader.ensures c.in-Ok.ensures.opened c.in-Err-found.slot c.in-Err-found.ensures
