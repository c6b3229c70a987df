use Rattle.std.proofs.Common.{ℕ, ◌≡◌, ◌<◌, ◌∙◌, arith, inl, inr, subst, sym, ap, set, length}
use Rattle.std.proofs.lemmas.Bool.{cases_eq, cases_lt}
use Rattle.std.proofs.lemmas.List.{length-set}
use Rattle.truncation_list.specs.Index.{slots_in}
use Rattle.truncation_list.specs.Slots.{taken}
use Rattle.truncation_list.proofs.InLists.{capacity_set, slots_past, slots_read, slots_set, slots_set_other}
use Rattle.truncation_list.proofs.lists.keep_each.Goals as goal

pub keeping-preserved : goal.keeping-preserved
keeping-preserved c =
    let lists = c.keeping.lists in
    let k = c.keeping.k in
    let d = c.index-lists-k.result in
    let v = c.keep_taken.new.list in
    let long = c.keeping.invariant.long in
    let within : k < length lists = omega arith in
    record {
      long = length-set lists k v ∙ long;
      capacity = λ j. capacity_set lists k d v within c.keep_taken.ensures.capacity j ∙ c.keeping.invariant.capacity j;
      done = λ j b.
          elim (cases_eq j k) [
            | inl s ↦ subst (λ (i : ℕ). slots_in (set lists k v) i ≡ taken c.args.slots.now (slots_in c.args.lists.now i)) (sym s) (slots_set lists k d v within ∙ c.keep_taken.ensures.slots ∙ ap (taken c.args.slots.now) (sym (slots_read lists k d within) ∙ c.keeping.invariant.after k (omega arith)))
            | inr ne ↦ slots_set_other lists k d v j ne ∙ c.keeping.invariant.done j (omega arith)
          ];
      after = λ j b. slots_set_other lists k d v j (λ e. absurd (omega arith)) ∙ c.keeping.invariant.after j (omega arith);
    }

pub returns-clause-slots : goal.returns-clause-slots
returns-clause-slots c =
    λ j. elim (cases_lt j c.keeping.k) [
      | inl b ↦ c.keeping.invariant.done j b
      | inr b ↦ let none = slots_past c.args.lists.now j (omega arith) in
          c.keeping.invariant.after j b ∙ none ∙ sym (ap (taken c.args.slots.now) none)
    ]
