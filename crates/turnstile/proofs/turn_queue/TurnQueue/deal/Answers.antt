use Rattle.std.proofs.Common.{rules, arith}
use Rattle.turnstile.proofs.Moves.{deals}
use Rattle.turnstile.proofs.turn_queue.TurnQueue.deal.Goals as goal

pub split_seat-requires : goal.split_seat-requires
split_seat-requires g c =
    let sized = c.args.self.now.sized in
    (search rules, omega arith, deals g.C.Chest.charter g.C.Chest.book g.C.Chest.sound g.C.Chest.shown g.C.Chest.note _ _ _ c.requires.ready.0 c.requires.ready.1)
