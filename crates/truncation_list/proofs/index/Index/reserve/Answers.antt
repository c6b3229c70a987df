use Rattle.std.proofs.Common.{ℕ, ◌∙◌, ap, arith, refl, List, length, Ok, Err}
use Rattle.std.specs.Prelude.{OnOk, Result, Vec}
use Rattle.std.specs.Vec.{with_items}
use Rattle.std.specs.declared.alloc.Global.{Global}
use Rattle.std.specs.declared.alloc.AllocError.{AllocError}
use Rattle.truncation_list.specs.declared.index.Shelf.{Shelf}
use Rattle.truncation_list.specs.Index.{capacity_in, slots_in}
use Rattle.truncation_list.proofs.Indexing.{kept_listed, own_capacity, own_listed}
use Rattle.truncation_list.proofs.InLists.{written}
use Rattle.truncation_list.proofs.index.Index.reserve.Goals as goal

pub returns-in_err-grow-clause-listed : goal.returns-in_err-grow-clause-listed
returns-in_err-grow-clause-listed c =
    let cover = c.args.cover.now in
    let shelves = c.shelf_of.new.self.shelves.items in
    let s = c.in_ok-s.s in
    let old = c.index_mut-shelf.result.now in
    let new : Shelf = record { layer = old.layer; grid = old.grid; lists = c.grow.new.lists } in
    let first = c.in_ok-s.ensures.first in
    λ l g k. kept_listed shelves s old new cover.layer cover.grid first.0 first.1 (first.2 old) c.index_mut-shelf.ensures.value refl refl c.in_err-grow.ensures.slots l g k
    ∙ c.in_ok-s.ensures.listed l g k

pub returns-clause-listed : goal.returns-clause-listed
returns-clause-listed c =
    let cover = c.args.cover.now in
    let shelves = c.shelf_of.new.self.shelves.items in
    let s = c.in_ok-s.s in
    let old = c.index_mut-shelf.result.now in
    let new : Shelf = record { layer = old.layer; grid = old.grid; lists = with_items c.grow.new.lists c.reserve_each.new.lists } in
    let lists = written c.grow.new.lists c.reserve_each.new.lists (c.reserve_each.auto.lists ∙ ap (λ (ls : List (Vec ℕ Global)). length ls) c.deref_mut.ensures.value) in
    let first = c.in_ok-s.ensures.first in
    λ l g k. kept_listed shelves s old new cover.layer cover.grid first.0 first.1 (first.2 old) c.index_mut-shelf.ensures.value refl refl (λ j. ap (λ (ls : List (Vec ℕ Global)). slots_in ls j) lists ∙ c.reserve_each.ensures.slots j ∙ ap (λ (ls : List (Vec ℕ Global)). slots_in ls j) c.deref_mut.ensures.value ∙ c.in_ok-grow.ensures.slots j) l g k
    ∙ c.in_ok-s.ensures.listed l g k

on_ok : (result : Result (Unit {0}) AllocError) (P Q : Type 0) → (P → Q) → OnOk result P → OnOk result Q
on_ok (Ok x) P Q f h = f h
on_ok (Err e) P Q f h = h

pub returns-clause-room : goal.returns-clause-room
returns-clause-room c =
    let cover = c.args.cover.now in
    let shelves = c.shelf_of.new.self.shelves.items in
    let s = c.in_ok-s.s in
    let old = c.index_mut-shelf.result.now in
    let new : Shelf = record { layer = old.layer; grid = old.grid; lists = with_items c.grow.new.lists c.reserve_each.new.lists } in
    let lists = written c.grow.new.lists c.reserve_each.new.lists (c.reserve_each.auto.lists ∙ ap (λ (ls : List (Vec ℕ Global)). length ls) c.deref_mut.ensures.value) in
    let first = c.in_ok-s.ensures.first in
    let from = c.first_list.ensures in
    let to = c.last_list-2.ensures.list in
    on_ok c.reserve_each.result _ _
    (λ h k f l.
    let room = h k (omega (arith, from, f)) (omega (arith, to, l)) in
    let space = own_capacity shelves s old new cover.layer cover.grid first.0 first.1 (first.2 old) c.index_mut-shelf.ensures.value refl refl k ∙ ap (λ (ls : List (Vec ℕ Global)). capacity_in ls k) lists in
    let slots = ap (λ (xs : List ℕ). length xs) (own_listed shelves s old new cover.layer cover.grid first.0 first.1 (first.2 old) c.index_mut-shelf.ensures.value refl refl k ∙ ap (λ (ls : List (Vec ℕ Global)). slots_in ls k) lists) in
    omega (arith, room, space, slots)) c.reserve_each.ensures.room
