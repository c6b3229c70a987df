use Rattle.outbox.proofs.Packing.{one_spelling, spelling_size}
use Rattle.outbox.proofs.Ranging.{cover_ranged, packet_fits}
use Rattle.outbox.proofs.laws.laws_of_packets.Goals as goal

pub returns-clause-distinct : goal.returns-clause-distinct
returns-clause-distinct c = one_spelling

pub returns-clause-size : goal.returns-clause-size
returns-clause-size c = spelling_size

pub returns-clause-fits : goal.returns-clause-fits
returns-clause-fits c = packet_fits

pub returns-clause-ranged : goal.returns-clause-ranged
returns-clause-ranged c catalogue n cover valid is four above fits = (above, fits, cover_ranged catalogue cover valid is four)
