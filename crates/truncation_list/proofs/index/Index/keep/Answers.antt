use Rattle.std.proofs.Common.{ℕ, ◌<◌, ◌+◌, ◌∙◌, ap, arith, refl, subst, sym, List, [], ◌∷◌, ◌++◌, length, take, set, get_or}
use Rattle.std.specs.Prelude.{Vec}
use Rattle.std.specs.Vec.{with_items}
use Rattle.std.specs.List.{AllZip}
use Rattle.std.specs.declared.alloc.Global.{Global}
use Rattle.std.proofs.lemmas.List.{get_or-set_other, length-set, take_all, take_more, take_more_set}
use Rattle.std.proofs.lemmas.List.Elements.{AllZip-push}
use Rattle.truncation_list.specs.declared.index.Shelf.{Shelf}
use Rattle.truncation_list.specs.Index.{capacity_in, slots_in}
use Rattle.truncation_list.specs.Slots.{taken}
use Rattle.truncation_list.proofs.InLists.{written}
use Rattle.truncation_list.proofs.Shelves.{Edited, found_edited, found_set_same}
use Rattle.truncation_list.proofs.index.Index.keep.Goals as goal

pub keeping-preserved : goal.keeping-preserved
keeping-preserved c =
    let first = c.args.self.now.shelves.items in
    let shelves = c.keeping.self.shelves.items in
    let s = c.keeping.s in
    let old = c.index_mut.result.now in
    let new : Shelf = record { layer = old.layer; grid = old.grid; lists = with_items old.lists c.keep_each.new.lists } in
    let lists = written old.lists c.keep_each.new.lists (c.keep_each.auto.lists ∙ ap (λ (ls : List (Vec ℕ Global)). length ls) c.deref_mut.ensures.value) in
    let long = c.keeping.invariant.long in
    let within : s < length shelves = omega arith in
    let edited : Edited (taken c.args.slots.now) (get_or first s old) new = subst (λ (shelf : Shelf). Edited (taken c.args.slots.now) shelf new) (c.index_mut.ensures.value ∙ c.keeping.invariant.after s old (omega arith)) (record {
      layer = refl;
      grid = refl;
      slots = λ k. ap (λ (ls : List (Vec ℕ Global)). slots_in ls k) lists ∙ c.keep_each.ensures.slots k ∙ ap (λ (ls : List (Vec ℕ Global)). taken c.args.slots.now (slots_in ls k)) c.deref_mut.ensures.value;
    }) in
    record {
      long = length-set shelves s new ∙ long;
      done = subst (λ (xs : List Shelf). AllZip (Edited (taken c.args.slots.now)) xs (take (s + 1) (set shelves s new))) (sym (take_more first s old (omega arith)))
          (subst (λ (xs : List Shelf). AllZip (Edited (taken c.args.slots.now)) (take s first ++ get_or first s old ∷ []) xs) (sym (take_more_set shelves s new within))
          (AllZip-push (Edited (taken c.args.slots.now)) (take s first) (take s shelves) (get_or first s old) new c.keeping.invariant.done edited));
      after = λ i d b. get_or-set_other shelves s i new d (λ e. absurd (omega arith)) ∙ c.keeping.invariant.after i d (omega arith);
      capacity = λ l g k. found_set_same (λ shelf. capacity_in shelf.lists.items k) 0 shelves s new old l g within (ap (λ (shelf : Shelf). shelf.layer) c.index_mut.ensures.value) (ap (λ (shelf : Shelf). shelf.grid) c.index_mut.ensures.value) (ap (λ (ls : List (Vec ℕ Global)). capacity_in ls k) lists ∙ c.keep_each.ensures.capacity k ∙ ap (λ (ls : List (Vec ℕ Global)). capacity_in ls k) c.deref_mut.ensures.value ∙ ap (λ (shelf : Shelf). capacity_in shelf.lists.items k) c.index_mut.ensures.value)
          ∙ c.keeping.invariant.capacity l g k;
    }

pub returns-clause-listed : goal.returns-clause-listed
returns-clause-listed c =
    let first = c.args.self.now.shelves.items in
    let shelves = c.keeping.self.shelves.items in
    let long = c.keeping.invariant.long in
    found_edited (taken c.args.slots.now) refl first shelves
    (subst (λ (xs : List Shelf). AllZip (Edited (taken c.args.slots.now)) xs shelves) (take_all c.keeping.s first (omega arith))
    (subst (λ (xs : List Shelf). AllZip (Edited (taken c.args.slots.now)) (take c.keeping.s first) xs) (take_all c.keeping.s shelves (omega arith)) c.keeping.invariant.done))
