use Rattle.std.proofs.Common.{ℕ, ◌<◌, ◌∙◌, arith, inl, inr, subst, sym, ap, List, set, length}
use Rattle.std.proofs.lemmas.Bool.{cases_eq}
use Rattle.std.proofs.lemmas.List.{length-set}
use Rattle.std.specs.Prelude.{vec_capacity}
use Rattle.truncation_list.specs.Index.{capacity_in, slots_in}
use Rattle.truncation_list.proofs.InLists.{at_other, capacity_set_at, slots_set, slots_set_other, slots_set_same}
use Rattle.truncation_list.proofs.lists.reserve_each.Goals as goal

pub returns-in_err-reserve-clause-slots : goal.returns-in_err-reserve-clause-slots
returns-in_err-reserve-clause-slots c =
    λ j. slots_set_same c.reserving.lists c.reserving.k c.index-lists-k.result c.reserve.new.self (let e = c.reserving.invariant.long in omega arith) c.in_err-reserve.ensures.items j
    ∙ c.reserving.invariant.slots j

pub reserving-preserved : goal.reserving-preserved
reserving-preserved c =
    let lists = c.reserving.lists in
    let k = c.reserving.k in
    let d = c.index-lists-k.result in
    let v = c.reserve.new.self in
    let long = c.reserving.invariant.long in
    let within : k < length lists = omega arith in
    let items = ap (λ (xs : List ℕ). length xs) (slots_set lists k d v within) in
    let space = capacity_set_at lists k d v within in
    let whole = v.ok.0 in
    let more = c.in_ok-reserve.ensures.ok in
    record {
      long = length-set lists k v ∙ long;
      slots = λ j. slots_set_same lists k d v within c.in_ok-reserve.ensures.items j ∙ c.reserving.invariant.slots j;
      room = λ j f b.
          elim (cases_eq j k) [
            | inl s ↦ subst (λ (i : ℕ). length (slots_in (set lists k v) i) < capacity_in (set lists k v) i) (sym s) (omega (arith, items, space, whole, more))
            | inr ne ↦ let h = c.reserving.invariant.room j f (omega arith) in
                let p = ap (λ (xs : List ℕ). length xs) (slots_set_other lists k d v j ne) in
                let q = at_other (λ w. vec_capacity w) 0 lists k j v ne in
                omega (arith, h, p, q)
          ];
    }
