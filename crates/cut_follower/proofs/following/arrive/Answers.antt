use Rattle.cut_follower.proofs.Making.{arrives_made}
use Rattle.cut_follower.specs.Links.{LinkAt}
use Rattle.cut_follower.proofs.following.arrive.Goals as goal

pub returns-in-Ok-clause-arrives : goal.returns-in-Ok-clause-arrives
returns-in-Ok-clause-arrives g c =
    let before = c.args.link.now in
    let came = c.read_next.new.link in
    let after = c.make_and_tell.new.link in
    let a : LinkAt = record { left = g.L.ByteSource.left before; read_faults = g.L.ByteSource.faults before; taken = g.L.ByteSink.taken before; write_faults = g.L.ByteSink.faults before } in
    let m : LinkAt = record { left = g.L.ByteSource.left came; read_faults = g.L.ByteSource.faults came; taken = g.L.ByteSink.taken came; write_faults = g.L.ByteSink.faults came } in
    let b : LinkAt = record { left = g.L.ByteSource.left after; read_faults = g.L.ByteSource.faults after; taken = g.L.ByteSink.taken after; write_faults = g.L.ByteSink.faults after } in
    arrives_made a m b _ _ c.read_next.ensures.same_taken c.read_next.ensures.same_faults c.make_and_tell.ensures.same_left c.args.catalogue.now c.in-Ok.packet c.make_and_tell.result c.requires.same c.in-Ok.ensures.comes c.make_and_tell.ensures.makes
