use Rattle.std.proofs.Common.{◌≡◌, true, ℕ, ◌<◌, length, take, refl, arith, sym, subst}
use Rattle.std.specs.List.{list_all}
use Rattle.window_request.specs.Pieces.{differs}
use Rattle.window_request.proofs.Braces.{all_pass, front_passes, name_stands, no_name}
use Rattle.window_request.proofs.piece.braced.Goals as goal

pub returns-then-len-more : goal.returns-then-len-more
returns-then-len-more c = (c.args.more.now, refl, all_pass (differs 125) c.args.more.now c.len_until-len.result c.len_until-len.ensures.count c.if-len-more.true)

pub named_piece-requires : goal.named_piece-requires
named_piece-requires c = subst (λ (k : ℕ). list_all (differs 125) (take k c.args.more.now) ≡ true) (sym c.len_until-len.ensures.count) (front_passes (differs 125) c.args.more.now)

pub returns-in-Some : goal.returns-in-Some
returns-in-Some c =
    let inside : c.len_until-len.result < length c.args.more.now = omega (arith, c.len_until-len.ensures.within, c.if-len-more.false) in
    name_stands c.args.more.now c.len_until-len.result c.in-Some.piece c.len_until-len.ensures.count inside (rw c.in-Some.is at c.in_ok-piece.ensures)

pub returns-in-None : goal.returns-in-None
returns-in-None c =
    let inside : c.len_until-len.result < length c.args.more.now = omega (arith, c.len_until-len.ensures.within, c.if-len-more.false) in
    no_name c.args.more.now c.len_until-len.result c.len_until-len.ensures.count inside (rw c.in-None.is at c.in_ok-piece.ensures)
