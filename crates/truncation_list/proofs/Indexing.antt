-- what an index has after a slot is written to some of its lists, or taken out of them
use Rattle.std.proofs.Common.{ℕ, ◌≡◌, ◌<◌, ◌≤◌, ◌==◌, ◌&&◌, ◌∙◌, refl, ap, arith, sym, Bool, true, false, not, cond, List, [], ◌∷◌, ◌++◌, length, take, set, get_or, IsTrue}
use Rattle.std.specs.Prelude.{Vec, nat_le}
use Rattle.std.specs.declared.alloc.Global.{Global}
use Rattle.std.specs.List.{All}
use Rattle.truncation_list.specs.declared.cover.Cover.{Cover}
use Rattle.truncation_list.specs.declared.index.Shelf.{Shelf}
use Rattle.truncation_list.specs.Index.{HasRoom, capacity, capacity_in, first_list, found, is_of, last_list, listed, slots_in, stands}
use Rattle.truncation_list.specs.Slots.{without}
use Rattle.truncation_list.proofs.Decided.{both, eq_is, is_eq, join, le_is}
use Rattle.truncation_list.proofs.Filters.{filter_shorter}
use Rattle.truncation_list.proofs.Shelves.{found_at, found_none, found_set, found_set_same}

pub no_shelf : {A : Type 0} (of : Shelf → A) (none : A) (l g : ℕ) → found of none [] l g ≡ none
unfolding found
no_shelf of none l g = refl

pub empty_index : (shelves : List Shelf) → shelves ≡ [] → (l g k : ℕ) → listed shelves l g k ≡ []
empty_index shelves e l g k =
    ap (λ (all : List Shelf). listed all l g k) e ∙ no_shelf (λ shelf. slots_in shelf.lists.items k) [] l g

-- the parts of `stands`
pub record Stands (l g k : ℕ) (cover : Cover) : Type 0 where
  pub layer : cover.layer ≡ l
  pub grid : cover.grid ≡ g
  pub first : first_list cover ≤ k
  pub last : k ≤ last_list cover

pub stands_is : (l g k : ℕ) (cover : Cover) → IsTrue (stands l g k cover) → Stands l g k cover
stands_is l g k cover h =
    let t = both ((cover.layer == l) && (cover.grid == g)) (nat_le (first_list cover) k && nat_le k (last_list cover)) h in
    let u = both (cover.layer == l) (cover.grid == g) t.0 in
    let v = both (nat_le (first_list cover) k) (nat_le k (last_list cover)) t.1 in
    record {
      layer = eq_is cover.layer l u.0;
      grid = eq_is cover.grid g u.1;
      first = le_is (first_list cover) k v.0;
      last = le_is k (last_list cover) v.1;
    }

-- with no shelf for it, a cover that there is room for stands nowhere
not_there : (v : Bool) (xs ys : List ℕ) → (IsTrue v → ⊥) → ys ≡ cond v xs ys
not_there true xs ys h = absurd (h refl)
not_there false xs ys h = refl

pub stands_nowhere : (shelves : List Shelf) (cover : Cover) (slot : ℕ) → HasRoom shelves cover → All (λ shelf. is_of cover.layer cover.grid shelf ≡ false) shelves → (l g k : ℕ) → listed shelves l g k ≡ cond (stands l g k cover) (listed shelves l g k ++ slot ∷ []) (listed shelves l g k)
stands_nowhere shelves cover slot room none l g k =
    not_there (stands l g k cover) (listed shelves l g k ++ slot ∷ []) (listed shelves l g k) (λ t. no_room (stands_is l g k cover t))
  where
    no_room : Stands l g k cover → ⊥
    no_room s =
        let h = room k s.first s.last in
        let e = found_none (λ shelf. capacity_in shelf.lists.items k) 0 shelves cover.layer cover.grid none in
        omega (arith, h, e)

module _ (shelves : List Shelf) (s : ℕ) (old new : Shelf) (l g : ℕ) (within : s < length shelves) (others : All (λ shelf. is_of l g shelf ≡ false) (take s shelves)) (own : IsTrue (is_of l g (get_or shelves s old))) (is : old ≡ get_or shelves s old) where
  -- the room of a list of the shelf is that of the index
  pub listed_at : (k : ℕ) → listed shelves l g k ≡ slots_in old.lists.items k
  listed_at k =
      found_at (λ shelf. slots_in shelf.lists.items k) [] shelves s l g old within others own
      ∙ ap (λ (shelf : Shelf). slots_in shelf.lists.items k) (sym is)

  pub capacity_at : (k : ℕ) → capacity shelves l g k ≡ capacity_in old.lists.items k
  capacity_at k =
      found_at (λ shelf. capacity_in shelf.lists.items k) 0 shelves s l g old within others own
      ∙ ap (λ (shelf : Shelf). capacity_in shelf.lists.items k) (sym is)

  module _ (layer : new.layer ≡ old.layer) (grid : new.grid ≡ old.grid) where
    layer_is : new.layer ≡ l
    layer_is =
        let p = both ((get_or shelves s old).layer == l) ((get_or shelves s old).grid == g) own in
        layer ∙ ap (λ (shelf : Shelf). shelf.layer) is ∙ eq_is (get_or shelves s old).layer l p.0

    grid_is : new.grid ≡ g
    grid_is =
        let p = both ((get_or shelves s old).layer == l) ((get_or shelves s old).grid == g) own in
        grid ∙ ap (λ (shelf : Shelf). shelf.grid) is ∙ eq_is (get_or shelves s old).grid g p.1

    pub kept_capacity : ((k : ℕ) → capacity_in new.lists.items k ≡ capacity_in old.lists.items k) → (l' g' k : ℕ) → capacity (set shelves s new) l' g' k ≡ capacity shelves l' g' k
    kept_capacity same l' g' k =
        found_set_same (λ shelf. capacity_in shelf.lists.items k) 0 shelves s new old l' g' within (layer ∙ ap (λ (shelf : Shelf). shelf.layer) is) (grid ∙ ap (λ (shelf : Shelf). shelf.grid) is)
        (same k ∙ ap (λ (shelf : Shelf). capacity_in shelf.lists.items k) is)

    pub kept_listed : ((k : ℕ) → slots_in new.lists.items k ≡ slots_in old.lists.items k) → (l' g' k : ℕ) → listed (set shelves s new) l' g' k ≡ listed shelves l' g' k
    kept_listed same l' g' k =
        found_set_same (λ shelf. slots_in shelf.lists.items k) [] shelves s new old l' g' within (layer ∙ ap (λ (shelf : Shelf). shelf.layer) is) (grid ∙ ap (λ (shelf : Shelf). shelf.grid) is)
        (same k ∙ ap (λ (shelf : Shelf). slots_in shelf.lists.items k) is)

    own_at : {A : Type 0} (w x : A) → cond ((l == l) && (g == g)) w x ≡ w
    own_at w x = let t : IsTrue ((l == l) && (g == g)) = join (l == l) (g == g) (is_eq l l refl) (is_eq g g refl) in rw t refl

    pub own_listed : (k : ℕ) → listed (set shelves s new) l g k ≡ slots_in new.lists.items k
    own_listed k =
        found_set (λ shelf. slots_in shelf.lists.items k) [] shelves s new old l g l g within others own layer_is grid_is
        ∙ own_at (slots_in new.lists.items k) (listed shelves l g k)

    pub own_capacity : (k : ℕ) → capacity (set shelves s new) l g k ≡ capacity_in new.lists.items k
    own_capacity k =
        found_set (λ shelf. capacity_in shelf.lists.items k) 0 shelves s new old l g l g within others own layer_is grid_is
        ∙ own_at (capacity_in new.lists.items k) (capacity shelves l g k)

    split_at : (edit : List ℕ → List ℕ) (t u : Bool) (w x : List ℕ) → (IsTrue t → w ≡ cond u (edit x) x) → cond t w x ≡ cond (t && u) (edit x) x
    split_at edit true u w x h = h refl
    split_at edit false u w x h = refl

    -- an edit of the lists that a cover stands in
    pub edited_listed : (edit : List ℕ → List ℕ) (cover : Cover) → cover.layer ≡ l → cover.grid ≡ g → ((k : ℕ) → slots_in new.lists.items k ≡ cond (nat_le (first_list cover) k && nat_le k (last_list cover)) (edit (slots_in old.lists.items k)) (slots_in old.lists.items k)) → (l' g' k : ℕ) → listed (set shelves s new) l' g' k ≡ cond (stands l' g' k cover) (edit (listed shelves l' g' k)) (listed shelves l' g' k)
    edited_listed edit cover e f edited l' g' k =
        found_set (λ shelf. slots_in shelf.lists.items k) [] shelves s new old l g l' g' within others own layer_is grid_is
        ∙ split_at edit ((l == l') && (g == g')) (nat_le (first_list cover) k && nat_le k (last_list cover)) (slots_in new.lists.items k) (listed shelves l' g' k) own_list
        ∙ ap (λ (v : Bool). cond (v && (nat_le (first_list cover) k && nat_le k (last_list cover))) (edit (listed shelves l' g' k)) (listed shelves l' g' k)) (ap (λ (n : ℕ). (n == l') && (g == g')) (sym e) ∙ ap (λ (n : ℕ). (cover.layer == l') && (n == g')) (sym f))
      where
        own_list : IsTrue ((l == l') && (g == g')) → slots_in new.lists.items k ≡ cond (nat_le (first_list cover) k && nat_le k (last_list cover)) (edit (listed shelves l' g' k)) (listed shelves l' g' k)
        own_list t =
            let p = both (l == l') (g == g') t in
            let here : listed shelves l' g' k ≡ slots_in old.lists.items k = ap (λ (n : ℕ). listed shelves n g' k) (sym (eq_is l l' p.0)) ∙ ap (λ (n : ℕ). listed shelves l n k) (sym (eq_is g g' p.1)) ∙ listed_at k in
            edited k ∙ ap (λ (xs : List ℕ). cond (nat_le (first_list cover) k && nat_le k (last_list cover)) (edit xs) xs) (sym here)

-- the same slots with the numbers of the lists as the code has them
pub edited_as : (edit : List ℕ → List ℕ) (first first' last last' k : ℕ) (from from' to : List (Vec ℕ Global)) → first ≡ first' → last ≡ last' → from ≡ from' → slots_in to k ≡ cond (nat_le first k && nat_le k last) (edit (slots_in from k)) (slots_in from k) → slots_in to k ≡ cond (nat_le first' k && nat_le k last') (edit (slots_in from' k)) (slots_in from' k)
edited_as edit first first' last last' k from from' to e f g h =
    h ∙ (λ i. cond (nat_le (e i) k && nat_le k (f i)) (edit (slots_in (g i) k)) (slots_in (g i) k))

-- with no shelf for a cover, there is nothing to take out
pub nothing_to_leave : (shelves : List Shelf) (cover : Cover) (slot : ℕ) → All (λ shelf. is_of cover.layer cover.grid shelf ≡ false) shelves → (l g k : ℕ) → listed shelves l g k ≡ cond (stands l g k cover) (without slot (listed shelves l g k)) (listed shelves l g k)
nothing_to_leave shelves cover slot none l g k = by_test (stands l g k cover) refl
  where
    by_test : (v : Bool) → stands l g k cover ≡ v → listed shelves l g k ≡ cond v (without slot (listed shelves l g k)) (listed shelves l g k)
    by_test true t =
        let s = stands_is l g k cover t in
        let empty : listed shelves l g k ≡ [] = ap (λ (n : ℕ). listed shelves n g k) (sym s.layer) ∙ ap (λ (n : ℕ). listed shelves cover.layer n k) (sym s.grid) ∙ found_none (λ shelf. slots_in shelf.lists.items k) [] shelves cover.layer cover.grid none in
        rw empty refl
    by_test false t = refl

-- ROOM

-- there is as much room where no list became longer
pub room_stays : (old new : List Shelf) (cover : Cover) → ((l g k : ℕ) → length (listed new l g k) ≤ length (listed old l g k)) → ((l g k : ℕ) → capacity new l g k ≡ capacity old l g k) → HasRoom old cover → HasRoom new cover
room_stays old new cover fewer same room k f l =
    let h = room k f l in
    let less = fewer cover.layer cover.grid k in
    let space = same cover.layer cover.grid k in
    omega (arith, h, less, space)

pub shorter_by : (v : Bool) (slot : ℕ) (old new : List ℕ) → new ≡ cond v (without slot old) old → length new ≤ length old
shorter_by true slot old new e =
    let less = filter_shorter (λ other. not (other == slot)) old in
    let same = ap (λ (xs : List ℕ). length xs) e in
    omega (arith, less, same)
shorter_by false slot old new e = let same = ap (λ (xs : List ℕ). length xs) e in omega (arith, same)
