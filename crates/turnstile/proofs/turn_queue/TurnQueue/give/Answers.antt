use Rattle.std.proofs.Common.{rules, arith}
use Rattle.std.specs.Prelude.{None, Some}
use Rattle.turnstile.proofs.Seats.{lone_is}
use Rattle.turnstile.proofs.Moves.{gives_as}
use Rattle.turnstile.proofs.turn_queue.TurnQueue.give.Goals as goal

pub store-requires : goal.store-requires
store-requires g c =
    let sized = c.args.self.now.sized in
    let e = c.exchange-nothing.ensures in (
      search rules,
      omega arith,
      gives_as g.C.Chest.charter g.C.Chest.book g.C.Chest.sound g.C.Chest.shown g.C.Chest.note _ _ _ c.exchange-nothing.new.seat.me c.args.seat.now.me.0 c.args.lodged sized.1 (lone_is c.args.seat.now.me c.exchange-nothing.new.seat.me 0 None (Some c.args.lodged) c.requires.turn.0 e.3) c.requires.turn.1 c.requires.leaves,
    )
