use Rattle.std.proofs.Common.{ℕ, ◌≡◌, ◌-◌, ◌<◌, ◌∙◌, ap, arith, drop, false, length, subst, sym, IsTrue, List}
use Rattle.std.specs.List.{All}
use Rattle.std.proofs.lemmas.List.{drop-map, get_or-map, length-map}
use Rattle.std.proofs.lemmas.List.Elements.{All-get_or, All-map}
use Rattle.truncation_list.specs.declared.book.Cut.{Cut}
use Rattle.truncation_list.specs.Covers.{IsWithinReach}
use Rattle.truncation_list.specs.Slots.{cut_in, cuts_in, no_cut}
use Rattle.truncation_list.proofs.HitRules.{hit, hits_since, none_since}
use Rattle.truncation_list.proofs.Outdone.{any_found}
use Rattle.truncation_list.proofs.Rule.{any_none}
use Rattle.truncation_list.proofs.looking.hit_since.Goals as goal

pub hits-requires-clause-reachable : goal.hits-requires-clause-reachable
hits-requires-clause-reachable c =
    let cuts = cuts_in c.args.slots.now c.args.list.now in
    let rest = c.looking.rest in
    let within : rest - 1 < length c.args.list.now = omega arith in
    let long : rest - 1 < length cuts = omega (arith, length-map c.args.list.now (cut_in c.args.slots.now)) in
    subst (λ (cut : Cut). IsWithinReach cut.cover) (get_or-map (cut_in c.args.slots.now) c.args.list.now (rest - 1) 0 no_cut within ∙ sym c.cut_in-cut.ensures)
    (All-get_or (λ cut. IsWithinReach cut.cover) cuts (rest - 1) no_cut long c.requires.order.within_reach)

pub returns-then-cut-number : goal.returns-then-cut-number
returns-then-cut-number c =
    let f = cut_in c.args.slots.now in
    let cuts = cuts_in c.args.slots.now c.args.list.now in
    let rest = c.looking.rest in
    let test = hits_since c.args.m.now c.args.block.now c.args.number in
    let within : rest - 1 < length c.args.list.now = omega arith in
    let long : rest - 1 < length cuts = omega (arith, length-map c.args.list.now f) in
    let here = ap (λ (cut : Cut). cut.number) (get_or-map f c.args.list.now (rest - 1) 0 no_cut within ∙ sym c.cut_in-cut.ensures) in
    let behind = subst (λ (ks : List Cut). All (λ cut. test cut ≡ false) ks) (sym (drop-map f rest c.args.list.now)) (All-map (λ cut. test cut ≡ false) f (drop rest c.args.list.now) c.looking.invariant.none_behind) in
    sym (none_since c.args.m.now c.args.block.now c.args.number cuts (rest - 1) rest no_cut (omega arith) long c.requires.order.by_number (omega (arith, here)) behind)

pub returns-then-hits : goal.returns-then-hits
returns-then-hits c =
    let f = cut_in c.args.slots.now in
    let rest = c.looking.rest in
    let test = hits_since c.args.m.now c.args.block.now c.args.number in
    let found = hit c.args.m.now c.args.block.now c.args.number c.cut_in-cut.result.now (omega arith) (sym c.hits.ensures.value ∙ c.if-hits.true) in
    sym (any_found f test c.args.list.now (rest - 1) 0 (omega arith) (subst (λ (cut : Cut). IsTrue (test cut)) c.cut_in-cut.ensures found))

pub returns : goal.returns
returns c =
    let f = cut_in c.args.slots.now in
    let test = hits_since c.args.m.now c.args.block.now c.args.number in
    let none : c.looking.rest ≡ 0 = omega arith in
    sym (any_none test (cuts_in c.args.slots.now c.args.list.now) (All-map (λ cut. test cut ≡ false) f c.args.list.now (subst (λ (i : ℕ). All (λ slot. test (f slot) ≡ false) (drop i c.args.list.now)) none c.looking.invariant.none_behind)))
