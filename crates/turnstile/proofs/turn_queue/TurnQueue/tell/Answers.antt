use Rattle.std.proofs.Common.{rules, arith}
use Rattle.turnstile.proofs.Moves.{copies}
use Rattle.turnstile.proofs.turn_queue.TurnQueue.tell.Goals as goal

pub split_seat-requires : goal.split_seat-requires
split_seat-requires g c =
    let sized = c.args.self.now.sized in
    (search rules, omega arith, copies g.C.Chest.charter g.C.Chest.book g.C.Chest.sound g.C.Chest.shown g.C.Chest.note _ _ _ c.requires.idle)
