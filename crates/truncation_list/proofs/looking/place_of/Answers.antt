use Rattle.std.proofs.Common.{◌+◌, ◌-◌, ◌/◌, ◌<◌, ◌∙◌, ap, arith, sym, length}
use Rattle.std.proofs.lemmas.List.{get_or-map, length-map}
use Rattle.truncation_list.specs.declared.book.Cut.{Cut}
use Rattle.truncation_list.specs.Slots.{cut_in, cuts_in, no_cut}
use Rattle.truncation_list.proofs.Outermost.{number_le}
use Rattle.truncation_list.proofs.looking.place_of.Goals as goal

pub halving-preserved-then-cut_in-number : goal.halving-preserved-then-cut_in-number
halving-preserved-then-cut_in-number c =
    let f = cut_in c.args.slots.now in
    let list = c.args.list.now in
    let cuts = cuts_in c.args.slots.now list in
    let middle = c.halving.low + (c.halving.high - c.halving.low) / 2 in
    let within : middle < length list = omega arith in
    let long : middle < length cuts = omega (arith, within, length-map list f) in
    let here = ap (λ (k : Cut). k.number) (get_or-map f list middle 0 no_cut within ∙ sym c.cut_in.ensures) in
    let less = c.if-cut_in-number.true in
    record {
      order = omega arith;
      within = c.halving.invariant.within;
      before = λ i b. let le = number_le cuts i middle no_cut c.requires.order (omega arith) long in omega (arith, le, here, less);
      from = c.halving.invariant.from;
    }

pub halving-preserved : goal.halving-preserved
halving-preserved c =
    let f = cut_in c.args.slots.now in
    let list = c.args.list.now in
    let cuts = cuts_in c.args.slots.now list in
    let middle = c.halving.low + (c.halving.high - c.halving.low) / 2 in
    let within : middle < length list = omega arith in
    let here = ap (λ (k : Cut). k.number) (get_or-map f list middle 0 no_cut within ∙ sym c.cut_in.ensures) in
    let more = c.if-cut_in-number.false in
    record {
      order = omega arith;
      within = omega arith;
      before = c.halving.invariant.before;
      from = λ i b l. let le = number_le cuts middle i no_cut c.requires.order b (omega (arith, l, length-map list f)) in omega (arith, le, here, more);
    }
