use Rattle.window_request.proofs.Braces.{plain_stands, plain_piece}
use Rattle.window_request.proofs.piece.plain.Goals as goal

pub returns : goal.returns
returns c =
    let e = c.in_ok-plain.ensures.items in
    plain_stands c.args.text.now c.args.len _ (plain_piece c.args.text.now c.in_ok-plain.plain.items c.args.len e c.requires.count c.requires.within c.requires.some) e c.requires.within
