use Rattle.std.proofs.Common.{ℕ, ◌≡◌, ◌<◌, ◌∙◌, ap, false, refl, subst, List, length, take, IsTrue}
use Rattle.std.specs.Prelude.{Vec}
use Rattle.std.specs.Vec.{with_items}
use Rattle.std.specs.List.{All, HoldsAt}
use Rattle.std.specs.declared.alloc.Global.{Global}
use Rattle.truncation_list.specs.declared.index.Shelf.{Shelf}
use Rattle.truncation_list.specs.Index.{capacity_in, first_list, is_of, last_list, slots_in}
use Rattle.truncation_list.specs.Slots.{without}
use Rattle.truncation_list.proofs.Indexing.{edited_as, edited_listed, kept_capacity, nothing_to_leave}
use Rattle.truncation_list.proofs.InLists.{written}
use Rattle.truncation_list.proofs.index.Index.leave.Goals as goal

pub returns-in-None-clause-listed : goal.returns-in-None-clause-listed
returns-in-None-clause-listed c =
    let cover = c.args.cover.now in
    nothing_to_leave c.args.self.now.shelves.items cover c.args.slot (subst (λ (shelves : List Shelf). All (λ shelf. is_of cover.layer cover.grid shelf ≡ false) shelves) c.deref.ensures.value c.in-None.ensures)

pub returns-clause-listed : goal.returns-clause-listed
returns-clause-listed c =
    let cover = c.args.cover.now in
    let shelves = c.args.self.now.shelves.items in
    let s = c.in-Some.s in
    let old = c.index_mut.result.now in
    let new : Shelf = record { layer = old.layer; grid = old.grid; lists = with_items old.lists c.take_from.new.lists } in
    let lists = written old.lists c.take_from.new.lists (c.take_from.auto.lists ∙ ap (λ (ls : List (Vec ℕ Global)). length ls) c.deref_mut.ensures.value) in
    let first = subst (λ (ss : List Shelf). (s < length ss) × All (λ shelf. is_of cover.layer cover.grid shelf ≡ false) (take s ss) × HoldsAt (λ shelf. IsTrue (is_of cover.layer cover.grid shelf)) ss s) c.deref.ensures.value c.in-Some.ensures in
    let edit : List ℕ → List ℕ = without c.args.slot in
    edited_listed shelves s old new cover.layer cover.grid first.0 first.1 (first.2 old) c.index_mut.ensures.value refl refl edit cover refl refl
    (λ k. ap (λ (ls : List (Vec ℕ Global)). slots_in ls k) lists ∙ edited_as edit c.first_list.result (first_list cover) c.last_list.result (last_list cover) k c.deref_mut.result.now old.lists.items c.take_from.new.lists c.first_list.ensures c.last_list.ensures.list c.deref_mut.ensures.value (c.take_from.ensures.slots k))

pub returns-clause-capacity : goal.returns-clause-capacity
returns-clause-capacity c =
    let cover = c.args.cover.now in
    let shelves = c.args.self.now.shelves.items in
    let s = c.in-Some.s in
    let old = c.index_mut.result.now in
    let new : Shelf = record { layer = old.layer; grid = old.grid; lists = with_items old.lists c.take_from.new.lists } in
    let lists = written old.lists c.take_from.new.lists (c.take_from.auto.lists ∙ ap (λ (ls : List (Vec ℕ Global)). length ls) c.deref_mut.ensures.value) in
    let first = subst (λ (ss : List Shelf). (s < length ss) × All (λ shelf. is_of cover.layer cover.grid shelf ≡ false) (take s ss) × HoldsAt (λ shelf. IsTrue (is_of cover.layer cover.grid shelf)) ss s) c.deref.ensures.value c.in-Some.ensures in
    kept_capacity shelves s old new cover.layer cover.grid first.0 first.1 (first.2 old) c.index_mut.ensures.value refl refl
    (λ k. ap (λ (ls : List (Vec ℕ Global)). capacity_in ls k) lists ∙ c.take_from.ensures.capacity k ∙ ap (λ (ls : List (Vec ℕ Global)). capacity_in ls k) c.deref_mut.ensures.value)
