use Rattle.cut_follower.proofs.Hearing.{heard_bytes, unheard_bytes}
use Rattle.std.proofs.Common.{refl}
use Rattle.cut_follower.proofs.leading.hear.Goals as goal

pub returns-in-Some-clause-hears : goal.returns-in-Some-clause-hears
returns-in-Some-clause-hears g c = heard_bytes c.args.outbox.now.out c.args.bytes.now c.in-Some.packet c.heard.result c.heard.new.self.out c.in-Some.ensures c.told-bytes c.heard.ensures.hears

pub returns-in-None-clause-hears : goal.returns-in-None-clause-hears
returns-in-None-clause-hears g c = (unheard_bytes c.args.outbox.now.out c.args.bytes.now c.in-None.ensures c.told-bytes, refl)
