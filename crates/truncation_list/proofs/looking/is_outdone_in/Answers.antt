use Rattle.std.proofs.Common.{ℕ, ◌≡◌, ◌-◌, ◌∙◌, ap, arith, drop, false, get_or, subst, sym, true, Option}
use Rattle.std.specs.Prelude.{unwrap_or}
use Rattle.std.specs.List.{All}
use Rattle.truncation_list.specs.declared.book.Cut.{Cut}
use Rattle.truncation_list.specs.Slots.{cut_in, no_cut}
use Rattle.truncation_list.proofs.Outdone.{outdoes, outdoes_by, outdone_by, outdone_by_later, outdone_by_none}
use Rattle.truncation_list.proofs.looking.is_outdone_in.Goals as goal

pub returns-in-None : goal.returns-in-None
returns-in-None c =
    let f = cut_in c.args.slots.now in
    let rest = c.looking.rest in
    let none = ap (λ (o : Option Cut). (unwrap_or o no_cut).number) (sym c.in-None.ensures) in
    sym (outdone_by_later f c.args.cut.now c.args.list.now (rest - 1) rest 0 (omega arith) (omega arith) c.requires (omega (arith, none)) c.looking.invariant.none_behind)

pub returns-then-other-cut : goal.returns-then-other-cut
returns-then-other-cut c =
    let f = cut_in c.args.slots.now in
    let rest = c.looking.rest in
    let same = ap (λ (o : Option Cut). (unwrap_or o no_cut).number) (sym c.in-Some.ensures) in
    sym (outdone_by_later f c.args.cut.now c.args.list.now (rest - 1) rest 0 (omega arith) (omega arith) c.requires (omega (arith, same)) c.looking.invariant.none_behind)

pub returns-then-contains : goal.returns-then-contains
returns-then-contains c =
    let f = cut_in c.args.slots.now in
    let cut = c.args.cut.now in
    let rest = c.looking.rest in
    let same : c.in-Some.other.now ≡ f (get_or c.args.list.now (rest - 1) 0) = ap (λ (o : Option Cut). unwrap_or o no_cut) c.in-Some.ensures in
    let found = outdoes_by cut c.in-Some.other.now (omega arith) (sym c.contains.ensures ∙ c.if-contains.true) in
    sym (outdone_by f cut c.args.list.now (rest - 1) 0 (omega arith) (subst (λ (k : Cut). outdoes cut k ≡ true) same found))

pub returns : goal.returns
returns c =
    let f = cut_in c.args.slots.now in
    let none : c.looking.rest ≡ 0 = omega arith in
    sym (outdone_by_none f c.args.cut.now c.args.list.now (subst (λ (i : ℕ). All (λ slot. outdoes c.args.cut.now (f slot) ≡ false) (drop i c.args.list.now)) none c.looking.invariant.none_behind))
