use Rattle.std.proofs.Common.{ℕ, ◌≡◌, ◌-◌, ◌<◌, ◌∙◌, arith, subst, sym, false, List, drop, get_or, length, Some, IsTrue}
use Rattle.std.specs.List.{All}
use Rattle.std.proofs.lemmas.List.{drop-map, get_or-map, length-map}
use Rattle.std.proofs.lemmas.List.Elements.{All-get_or, All-map}
use Rattle.truncation_list.specs.declared.book.Cut.{Cut}
use Rattle.truncation_list.specs.Covers.{IsWithinReach, covers}
use Rattle.truncation_list.specs.Listed.{IsLastCovering}
use Rattle.truncation_list.specs.Slots.{cut_in, cuts_in, no_cut}
use Rattle.truncation_list.proofs.Last.{last_is}
use Rattle.truncation_list.proofs.looking.last_covering.Goals as goal

pub covers-requires-clause-reachable : goal.covers-requires-clause-reachable
covers-requires-clause-reachable c =
    let cuts = cuts_in c.args.slots.now c.args.list.now in
    let rest = c.looking.rest in
    let within : rest - 1 < length c.args.list.now = omega arith in
    let long : rest - 1 < length cuts = omega (arith, length-map c.args.list.now (cut_in c.args.slots.now)) in
    subst (λ (cut : Cut). IsWithinReach cut.cover) (get_or-map (cut_in c.args.slots.now) c.args.list.now (rest - 1) 0 no_cut within ∙ sym c.cut_in-cut.ensures)
    (All-get_or (λ cut. IsWithinReach cut.cover) cuts (rest - 1) no_cut long c.requires.order.within_reach)

pub returns-then-covers : goal.returns-then-covers
returns-then-covers c =
    let f = cut_in c.args.slots.now in
    let cuts = cuts_in c.args.slots.now c.args.list.now in
    let rest = c.looking.rest in
    let m = c.args.m.now in
    let a = c.args.a.now in
    let within : rest - 1 < length c.args.list.now = omega arith in
    let long : rest - 1 < length cuts = omega (arith, length-map c.args.list.now f) in
    let here : get_or cuts (rest - 1) no_cut ≡ c.cut_in-cut.result.now = get_or-map f c.args.list.now (rest - 1) 0 no_cut within ∙ sym c.cut_in-cut.ensures in
    let behind = subst (λ (ks : List Cut). All (λ cut. covers cut.cover m a ≡ false) ks) (sym (drop-map f rest c.args.list.now)) (All-map (λ cut. covers cut.cover m a ≡ false) f (drop rest c.args.list.now) c.looking.invariant.none_behind) in
    subst (λ (cut : Cut). IsLastCovering cuts m a (Some cut.number)) here
    (last_is m a cuts (rest - 1) rest no_cut (omega arith) long c.requires.order.by_number (subst (λ (cut : Cut). IsTrue (covers cut.cover m a)) (sym here) (sym c.covers.ensures ∙ c.if-covers.true)) behind)

pub returns : goal.returns
returns c =
    let m = c.args.m.now in
    let a = c.args.a.now in
    let none : c.looking.rest ≡ 0 = omega arith in
    All-map (λ cut. covers cut.cover m a ≡ false) (cut_in c.args.slots.now) c.args.list.now
    (subst (λ (i : ℕ). All (λ slot. covers (cut_in c.args.slots.now slot).cover m a ≡ false) (drop i c.args.list.now)) none c.looking.invariant.none_behind)
