use Rattle.std.proofs.Common.{rules, arith}
use Rattle.turnstile.proofs.Moves.{hears_of, learns_as}
use Rattle.turnstile.proofs.turn_queue.TurnQueue.hear.Goals as goal

pub join_seat-requires : goal.join_seat-requires
join_seat-requires g c =
    let sized = c.args.self.now.sized in
    (search rules, search rules, search rules, omega arith, hears_of g.C.Chest.charter g.C.Chest.book g.C.Chest.sound g.C.Chest.shown g.C.Chest.note _ _ _ _ _ c.requires.mine.0 c.requires.mine.1 c.requires.theirs.0 c.requires.theirs.1)

pub load-requires : goal.load-requires
load-requires g c =
    let sized = c.args.self.now.sized in
    (search rules, omega arith, learns_as g.C.Chest.charter g.C.Chest.book g.C.Chest.sound g.C.Chest.shown g.C.Chest.note _ _ _ _ sized.1 (rw c.join_seat.ensures.2 c.requires.mine.0))
