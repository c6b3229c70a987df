use Rattle.std.proofs.Common.{ℕ, ◌≡◌, ◌<◌, ◌&&◌, ◌∙◌, refl, arith, inl, inr, subst, sym, ap, set, length}
use Rattle.std.specs.Prelude.{nat_le}
use Rattle.std.proofs.lemmas.Bool.{cases_eq, cases_lt}
use Rattle.std.proofs.lemmas.List.{length-set}
use Rattle.truncation_list.specs.Index.{slots_in}
use Rattle.truncation_list.specs.Slots.{without}
use Rattle.truncation_list.proofs.InLists.{by_range, capacity_set, slots_past, slots_read, slots_set, slots_set_other}
use Rattle.truncation_list.proofs.lists.take_from.Goals as goal

pub taking-preserved : goal.taking-preserved
taking-preserved c =
    let lists = c.taking.lists in
    let k = c.taking.k in
    let d = c.index-lists-k.result in
    let v = c.take_out.new.list in
    let long = c.taking.invariant.long in
    let within : k < length lists = omega arith in
    record {
      long = length-set lists k v ∙ long;
      end = omega arith;
      capacity = λ j. capacity_set lists k d v within (c.take_out.ensures.capacity) j ∙ c.taking.invariant.capacity j;
      done = λ j f b.
          elim (cases_eq j k) [
            | inl s ↦ subst (λ (i : ℕ). slots_in (set lists k v) i ≡ without c.args.slot (slots_in c.args.lists.now i)) (sym s) (slots_set lists k d v within ∙ c.take_out.ensures.items ∙ ap (without c.args.slot) (sym (slots_read lists k d within) ∙ c.taking.invariant.after k (omega arith)))
            | inr ne ↦ slots_set_other lists k d v j ne ∙ c.taking.invariant.done j f (omega arith)
          ];
      before = λ j b. slots_set_other lists k d v j (λ e. absurd (omega arith)) ∙ c.taking.invariant.before j b;
      after = λ j b. slots_set_other lists k d v j (λ e. absurd (omega arith)) ∙ c.taking.invariant.after j (omega arith);
    }

pub returns-clause-slots : goal.returns-clause-slots
returns-clause-slots c =
    λ j. by_range c.args.first c.args.last j (nat_le c.args.first j && nat_le j c.args.last) (slots_in c.taking.lists j) (slots_in c.args.lists.now j) (without c.args.slot (slots_in c.args.lists.now j)) refl
    (λ f l. elim (cases_lt j c.taking.k) [
      | inl b ↦ c.taking.invariant.done j f b
      | inr b ↦ let none = slots_past c.args.lists.now j (omega arith) in
          c.taking.invariant.after j b ∙ none ∙ sym (ap (without c.args.slot) none)
    ])
    (λ l. c.taking.invariant.before j l)
    (λ l. elim (cases_lt j c.args.first) [ inl b ↦ c.taking.invariant.before j b | inr b ↦ c.taking.invariant.after j (let e = c.taking.invariant.end in omega arith) ])
