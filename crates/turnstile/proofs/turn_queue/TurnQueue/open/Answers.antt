use Rattle.std.proofs.Common.{rules}
use Rattle.turnstile.proofs.Moves.{begins_as}
use Rattle.turnstile.proofs.turn_queue.TurnQueue.open.Goals as goal

pub new-requires-3 : goal.new-requires-3
new-requires-3 g c = begins_as g.C.Chest.charter g.C.Chest.book g.C.Chest.sound _ c.args.opening.now (record { chest = c.args.chest; asked = c.new.result; answered = c.new-2.result }) (search rules) c.requires.chest c.requires.sound
