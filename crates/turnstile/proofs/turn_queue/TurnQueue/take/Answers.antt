use Rattle.std.proofs.Common.{rules, arith}
use Rattle.turnstile.proofs.Seats.{holds_first}
use Rattle.turnstile.proofs.Moves.{takes_as}
use Rattle.turnstile.proofs.turn_queue.TurnQueue.take.Goals as goal

pub compare_exchange-requires : goal.compare_exchange-requires
compare_exchange-requires g c =
    let sized = c.args.self.now.sized in
    let same = c.loop.invariant.3 in
    (search rules, omega arith, takes_as g.C.Chest.charter g.C.Chest.book g.C.Chest.sound g.C.Chest.shown g.C.Chest.note _ _ _ _ sized.1 (rw same c.requires.ready.0) (rw same c.requires.ready.1))

pub exchange-requires : goal.exchange-requires
exchange-requires g c =
    let t = c.compare_exchange.ensures.2.0 c.if-compare_exchange-eq0.true in
    (search rules, holds_first _ _ _ _ _ t.1)
