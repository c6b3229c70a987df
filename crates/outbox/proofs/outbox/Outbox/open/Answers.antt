use Rattle.std.proofs.Common.{None, sym, subst}
use Rattle.catalog.specs.declared.catalogue.Catalogue.{Catalogue}
use Rattle.outbox.specs.Files.{IsPosted}
use Rattle.outbox.proofs.Reached.{is_posted, opens_to_bad, opens_to_posts}
use Rattle.outbox.proofs.outbox.Outbox.open.Goals as goal

pub invariant_of-result : goal.invariant_of-result
invariant_of-result g c =
    let f = c.in-Ok.file in
    let told = g.D.Disk.told c.args.disk in
    subst (λ (k : Catalogue). IsPosted (g.D.Disk.told f.disk) k (record { posts = c.in-Ok-posts.posts.items; undecided = None; heard = 0 }) f.journal (g.D.Disk.state f.disk)) (sym c.of.ensures)
    (is_posted told c.args.catalogue.now (g.D.Disk.state c.args.disk) (g.D.Disk.state f.disk) c.new-reader.result c.open.new.visit f.journal c.new-reader.ensures c.in-Ok.ensures.opened
    c.in-Ok-posts.posts.items (g.D.Disk.told f.disk) c.requires.valid c.in-Ok-posts.ensures.ok c.in-Ok.ensures.told c.requires.ours c.in-Ok.ensures.quiet)

pub returns-in-Ok-posts-clause-opened : goal.returns-in-Ok-posts-clause-opened
returns-in-Ok-posts-clause-opened g c is =
    let f = c.in-Ok.file in
    let told = g.D.Disk.told c.args.disk in
    let opens =
    opens_to_posts told c.args.catalogue.now (g.D.Disk.state c.args.disk) (g.D.Disk.state f.disk) c.new-reader.result c.open.new.visit f.journal c.new-reader.ensures c.in-Ok.ensures.opened c.in-Ok-posts.posts.items c.in-Ok-posts.ensures.ok is
    in
    record { opens = opens; whole = c.requires.ours is c.in-Ok-posts.posts.items opens }

pub returns-in-Err-posts-clause-refused : goal.returns-in-Err-posts-clause-refused
returns-in-Err-posts-clause-refused g c =
    let f = c.in-Ok.file in
    let told = g.D.Disk.told c.args.disk in
    opens_to_bad told c.args.catalogue.now (g.D.Disk.state c.args.disk) (g.D.Disk.state f.disk) c.new-reader.result c.open.new.visit f.journal c.new-reader.ensures c.in-Ok.ensures.opened c.in-Err-posts.slot c.in-Err-posts.ensures.err
