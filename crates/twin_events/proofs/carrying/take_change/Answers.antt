use Rattle.outbox.specs.declared.packet.Packet.TheVariants as packets
use Rattle.cut_follower.proofs.Making.{goes_to}
use Rattle.twin_events.proofs.carrying.take_change.Goals as goal

pub returns-in-Ok-Answer-clause-goes : goal.returns-in-Ok-Answer-clause-goes
returns-in-Ok-Answer-clause-goes g c =
    let r = c.in-Ok-Answer.ensures in
    goes_to _ _ _ _ _ _ (packets.Change c.args.number c.args.cover.now) c.in-Ok-Answer.field-0 c.known.ensures c.requires.cover r.takes c.take.ensures.later c.take.ensures.cabinet_later c.take.ensures.still_sound r.images
