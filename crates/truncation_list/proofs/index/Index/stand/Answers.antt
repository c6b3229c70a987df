use Rattle.std.proofs.Common.{ℕ, ◌≡◌, ◌<◌, ◌∙◌, ◌++◌, ◌∷◌, [], ap, arith, false, refl, sym, subst, List, length, take, IsTrue}
use Rattle.std.specs.Prelude.{Vec}
use Rattle.std.specs.Vec.{with_items}
use Rattle.std.specs.List.{All, HoldsAt}
use Rattle.std.specs.declared.alloc.Global.{Global}
use Rattle.truncation_list.specs.declared.index.Shelf.{Shelf}
use Rattle.truncation_list.specs.Index.{capacity_in, first_list, is_of, last_list, slots_in}
use Rattle.truncation_list.proofs.Indexing.{capacity_at, edited_as, edited_listed, kept_capacity, listed_at, stands_nowhere}
use Rattle.truncation_list.proofs.InLists.{written}
use Rattle.truncation_list.proofs.index.Index.stand.Goals as goal

pub returns-in-None-clause-listed : goal.returns-in-None-clause-listed
returns-in-None-clause-listed c =
    let cover = c.args.cover.now in
    stands_nowhere c.args.self.now.shelves.items cover c.args.slot c.requires (subst (λ (shelves : List Shelf). All (λ shelf. is_of cover.layer cover.grid shelf ≡ false) shelves) c.deref.ensures.value c.in-None.ensures)

pub push_slot-requires-clause-room : goal.push_slot-requires-clause-room
push_slot-requires-clause-room c =
    let cover = c.args.cover.now in
    let shelves = c.args.self.now.shelves.items in
    let s = c.in-Some.s in
    let old = c.index_mut.result.now in
    let first = subst (λ (ss : List Shelf). (s < length ss) × All (λ shelf. is_of cover.layer cover.grid shelf ≡ false) (take s ss) × HoldsAt (λ shelf. IsTrue (is_of cover.layer cover.grid shelf)) ss s) c.deref.ensures.value c.in-Some.ensures in
    let from = c.first_list.ensures in
    let to = c.last_list.ensures.list in
    λ k f l.
    let room = c.requires k (omega (arith, from, f)) (omega (arith, to, l)) in
    let slots = ap (λ (xs : List ℕ). length xs) (listed_at shelves s old old cover.layer cover.grid first.0 first.1 (first.2 old) c.index_mut.ensures.value k) in
    let space = capacity_at shelves s old old cover.layer cover.grid first.0 first.1 (first.2 old) c.index_mut.ensures.value k in
    subst (λ (ls : List (Vec ℕ Global)). length (slots_in ls k) < capacity_in ls k) (sym c.deref_mut.ensures.value) (omega (arith, room, slots, space))

pub returns-clause-listed : goal.returns-clause-listed
returns-clause-listed c =
    let cover = c.args.cover.now in
    let shelves = c.args.self.now.shelves.items in
    let s = c.in-Some.s in
    let old = c.index_mut.result.now in
    let new : Shelf = record { layer = old.layer; grid = old.grid; lists = with_items old.lists c.push_slot.new.lists } in
    let lists = written old.lists c.push_slot.new.lists (c.push_slot.auto.lists ∙ ap (λ (ls : List (Vec ℕ Global)). length ls) c.deref_mut.ensures.value) in
    let first = subst (λ (ss : List Shelf). (s < length ss) × All (λ shelf. is_of cover.layer cover.grid shelf ≡ false) (take s ss) × HoldsAt (λ shelf. IsTrue (is_of cover.layer cover.grid shelf)) ss s) c.deref.ensures.value c.in-Some.ensures in
    let pushed : List ℕ → List ℕ = λ xs. xs ++ c.args.slot ∷ [] in
    edited_listed shelves s old new cover.layer cover.grid first.0 first.1 (first.2 old) c.index_mut.ensures.value refl refl pushed cover refl refl
    (λ k. ap (λ (ls : List (Vec ℕ Global)). slots_in ls k) lists ∙ edited_as pushed c.first_list.result (first_list cover) c.last_list.result (last_list cover) k c.deref_mut.result.now old.lists.items c.push_slot.new.lists c.first_list.ensures c.last_list.ensures.list c.deref_mut.ensures.value (c.push_slot.ensures.slots k))

pub returns-clause-capacity : goal.returns-clause-capacity
returns-clause-capacity c =
    let cover = c.args.cover.now in
    let shelves = c.args.self.now.shelves.items in
    let s = c.in-Some.s in
    let old = c.index_mut.result.now in
    let new : Shelf = record { layer = old.layer; grid = old.grid; lists = with_items old.lists c.push_slot.new.lists } in
    let lists = written old.lists c.push_slot.new.lists (c.push_slot.auto.lists ∙ ap (λ (ls : List (Vec ℕ Global)). length ls) c.deref_mut.ensures.value) in
    let first = subst (λ (ss : List Shelf). (s < length ss) × All (λ shelf. is_of cover.layer cover.grid shelf ≡ false) (take s ss) × HoldsAt (λ shelf. IsTrue (is_of cover.layer cover.grid shelf)) ss s) c.deref.ensures.value c.in-Some.ensures in
    kept_capacity shelves s old new cover.layer cover.grid first.0 first.1 (first.2 old) c.index_mut.ensures.value refl refl
    (λ k. ap (λ (ls : List (Vec ℕ Global)). capacity_in ls k) lists ∙ c.push_slot.ensures.capacity k ∙ ap (λ (ls : List (Vec ℕ Global)). capacity_in ls k) c.deref_mut.ensures.value)
