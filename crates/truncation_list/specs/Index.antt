-- Where cuts stand: the lists of an index, each of which has the slots of its cuts in their order.
use Rattle.std.specs.Prelude.{ℕ, min, max, ◌≡◌, ◌≤◌, ◌<◌, ◌==◌, ◌&&◌, nat_le, Bool, if◌then◌else◌, filter, List, [], ◌∷◌, length, map, slice_index_or, Vec, vec_capacity}
use Rattle.std.specs.declared.alloc.Global.{Global}
use Rattle.slab.specs.Slab.{Slab}
use Rattle.truncation_list.specs.declared.book.Cut.{Cut}
use Rattle.truncation_list.specs.declared.cover.Cover.{Cover}
use Rattle.truncation_list.specs.declared.index.Shelf.{Shelf}
use Rattle.truncation_list.specs.Purge.{IsInOrder}
use Rattle.truncation_list.specs.Slots.{AreTaken, cut_in, cuts_in}

-- LISTS. A layer and grid has one for each zoom below 31, and one for all zooms from 31 on.

abbrev pub list_of : ℕ → ℕ
list_of z = min z 31

-- a cover stands in those from its one zoom to its other
abbrev pub first_list : Cover → ℕ
first_list cover = list_of (min cover.z_start cover.z_stop)

abbrev pub last_list : Cover → ℕ
last_list cover = list_of (max cover.z_start cover.z_stop)

abbrev pub stands : ℕ → ℕ → ℕ → Cover → Bool
stands layer grid k cover = (cover.layer == layer) && (cover.grid == grid) && (nat_le (first_list cover) k && nat_le k (last_list cover))

-- the slots of an order whose cuts stand in a list
abbrev pub standing : ℕ → ℕ → ℕ → Slab Cut → List ℕ → List ℕ
standing layer grid k slots order = filter (λ slot. stands layer grid k (cut_in slots slot).cover) order

-- WHAT AN INDEX HAS

-- a list by its number, empty where there is none, and for how many slots it has memory
abbrev pub slots_in : List (Vec ℕ Global) → ℕ → List ℕ
slots_in lists k = slice_index_or (map (λ list. list.items) lists) k []

abbrev pub capacity_in : List (Vec ℕ Global) → ℕ → ℕ
capacity_in lists k = slice_index_or (map (λ list. vec_capacity list) lists) k 0

-- of the first shelf of a layer and grid
abbrev pub is_of : ℕ → ℕ → Shelf → Bool
is_of layer grid shelf = (shelf.layer == layer) && (shelf.grid == grid)

unfoldable pub found : {A : Type 0} → (Shelf → A) → A → List Shelf → ℕ → ℕ → A
found of none [] layer grid = none
found of none (shelf ∷ shelves) layer grid =
    if is_of layer grid shelf then of shelf else found of none shelves layer grid

abbrev pub listed : List Shelf → ℕ → ℕ → ℕ → List ℕ
listed shelves layer grid k = found (λ shelf. slots_in shelf.lists.items k) [] shelves layer grid

abbrev pub capacity : List Shelf → ℕ → ℕ → ℕ → ℕ
capacity shelves layer grid k = found (λ shelf. capacity_in shelf.lists.items k) 0 shelves layer grid

-- for each layer, grid and number the list has exactly the slots of the order whose cuts stand there
abbrev pub IsIndexOf : List Shelf → Slab Cut → List ℕ → Type 0
IsIndexOf shelves slots order = (layer grid k : ℕ) → listed shelves layer grid k ≡ standing layer grid k slots order

-- in each list that the cover stands in there is memory for one more slot
abbrev pub HasRoom : List Shelf → Cover → Type 0
HasRoom shelves cover =
    (k : ℕ) → first_list cover ≤ k → k ≤ last_list cover → length (listed shelves cover.layer cover.grid k) < capacity shelves cover.layer cover.grid k

-- what slots, an order and an index keep to: each slot of the order has a cut, the cuts stand by number, and the index is
-- theirs
pub record IsIndexed (slots : Slab Cut) (order : List ℕ) (shelves : List Shelf) : Type 0 where
  pub taken : AreTaken slots order
  pub in_order : IsInOrder (cuts_in slots order)
  pub index : IsIndexOf shelves slots order
