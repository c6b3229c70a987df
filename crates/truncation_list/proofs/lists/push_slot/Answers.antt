use Rattle.std.proofs.Common.{ℕ, ◌≡◌, ◌<◌, ◌&&◌, ◌++◌, ◌∷◌, [], ◌∙◌, refl, arith, inl, inr, subst, sym, ap, List, set, length}
use Rattle.std.specs.Prelude.{nat_le}
use Rattle.std.proofs.lemmas.Bool.{cases_eq, cases_lt}
use Rattle.std.proofs.lemmas.List.{length-set}
use Rattle.truncation_list.specs.Index.{capacity_in, slots_in}
use Rattle.truncation_list.proofs.InLists.{by_range, capacity_set, slots_read, slots_set, slots_set_other, room_read, within_capacity}
use Rattle.truncation_list.proofs.lists.push_slot.Goals as goal

pub push_reserved-requires : goal.push_reserved-requires
push_reserved-requires c =
    let lists = c.pushing.lists in
    let k = c.pushing.k in
    let h = c.requires.room k (omega arith) (omega arith) in
    let items = ap (λ (xs : List ℕ). length xs) (c.pushing.invariant.after k (omega arith)) in
    let space = c.pushing.invariant.capacity k in
    let room : length (slots_in lists k) < capacity_in lists k = omega (arith, h, items, space) in
    room_read lists k c.index-lists-k.result room (within_capacity lists k (length (slots_in lists k)) room)

pub pushing-preserved : goal.pushing-preserved
pushing-preserved c =
    let lists = c.pushing.lists in
    let k = c.pushing.k in
    let d = c.index-lists-k.result in
    let v = c.push_reserved.new.self in
    let h = c.requires.room k (omega arith) (omega arith) in
    let same = c.pushing.invariant.capacity k in
    let within : k < length lists = within_capacity lists k (length (slots_in c.args.lists.now k)) (omega (arith, h, same)) in
    record {
      long = length-set lists k v ∙ c.pushing.invariant.long;
      end = omega arith;
      capacity = λ j. capacity_set lists k d v within c.push_reserved.ensures.capacity j ∙ c.pushing.invariant.capacity j;
      done = λ j f b.
          elim (cases_eq j k) [
            | inl s ↦ subst (λ (i : ℕ). slots_in (set lists k v) i ≡ slots_in c.args.lists.now i ++ c.args.slot ∷ []) (sym s) (slots_set lists k d v within ∙ c.push_reserved.ensures.items ∙ ap (λ (xs : List ℕ). xs ++ c.args.slot ∷ []) (sym (slots_read lists k d within) ∙ c.pushing.invariant.after k (omega arith)))
            | inr ne ↦ slots_set_other lists k d v j ne ∙ c.pushing.invariant.done j f (omega arith)
          ];
      before = λ j b. slots_set_other lists k d v j (λ e. absurd (omega arith)) ∙ c.pushing.invariant.before j b;
      after = λ j b. slots_set_other lists k d v j (λ e. absurd (omega arith)) ∙ c.pushing.invariant.after j (omega arith);
    }

pub returns-clause-slots : goal.returns-clause-slots
returns-clause-slots c =
    λ j. by_range c.args.first c.args.last j (nat_le c.args.first j && nat_le j c.args.last) (slots_in c.pushing.lists j) (slots_in c.args.lists.now j) (slots_in c.args.lists.now j ++ c.args.slot ∷ []) refl
    (λ f l. c.pushing.invariant.done j f (omega arith)) (λ l. c.pushing.invariant.before j l)
    (λ l. elim (cases_lt j c.args.first) [ inl b ↦ c.pushing.invariant.before j b | inr b ↦ c.pushing.invariant.after j (let e = c.pushing.invariant.end in omega arith) ])
