-- a list of a shelf by its number, after a write to one
use Rattle.std.proofs.Common.{ℕ, ◌≡◌, ◌<◌, ◌≤◌, ◌&&◌, ◌∙◌, inl, inr, ap, arith, subst, sym, Bool, true, false, cond, IsTrue, List, [], length, map, set, get_or}
use Rattle.std.specs.Prelude.{Vec, nat_le, vec_capacity, vec_len}
use Rattle.std.specs.declared.alloc.Global.{Global}
use Rattle.std.proofs.lemmas.List.{get_or-map, get_or-set_other, get_or-set_same, get_or_past, length-map, map-set, with_items_is}
use Rattle.std.proofs.lemmas.Bool.{cases_eq, cases_lt}
use Rattle.std.specs.Vec.{with_items}
use Rattle.truncation_list.specs.Index.{capacity_in, slots_in}
use Rattle.truncation_list.proofs.Decided.{both, is_le, join, le_is}

module _ {A : Type 0} (of : Vec ℕ Global → A) (none : A) where
  pub at_same : (lists : List (Vec ℕ Global)) (k : ℕ) (v : Vec ℕ Global) → k < length lists → get_or (map of (set lists k v)) k none ≡ of v
  at_same lists k v l =
      ap (λ (xs : List A). get_or xs k none) (map-set of lists k v)
      ∙ get_or-set_same (map of lists) k (of v) none (let n = length-map lists of in omega (arith, n))

  pub at_other : (lists : List (Vec ℕ Global)) (k j : ℕ) (v : Vec ℕ Global) → (j ≡ k → ⊥) → get_or (map of (set lists k v)) j none ≡ get_or (map of lists) j none
  at_other lists k j v ne =
      ap (λ (xs : List A). get_or xs j none) (map-set of lists k v) ∙ get_or-set_other (map of lists) k j (of v) none ne

module _ (lists : List (Vec ℕ Global)) (k : ℕ) (d : Vec ℕ Global) where
  pub slots_read : k < length lists → slots_in lists k ≡ (get_or lists k d).items
  slots_read l = get_or-map (λ (v : Vec ℕ Global). v.items) lists k d [] l

  pub capacity_read : k < length lists → capacity_in lists k ≡ vec_capacity (get_or lists k d)
  capacity_read l = get_or-map (λ (v : Vec ℕ Global). vec_capacity v) lists k d 0 l

  pub room_read : length (slots_in lists k) < capacity_in lists k → k < length lists → vec_len (get_or lists k d) < vec_capacity (get_or lists k d)
  room_read h l =
      let items = ap (λ (xs : List ℕ). length xs) (slots_read l) in
      let space = capacity_read l in
      let long = (get_or lists k d).ok.0 in
      omega (arith, h, items, space, long)

  module _ (v : Vec ℕ Global) where
    pub slots_set : k < length lists → slots_in (set lists k v) k ≡ v.items
    slots_set l = at_same (λ (w : Vec ℕ Global). w.items) [] lists k v l

    pub slots_set_other : (j : ℕ) → (j ≡ k → ⊥) → slots_in (set lists k v) j ≡ slots_in lists j
    slots_set_other j ne = at_other (λ (w : Vec ℕ Global). w.items) [] lists k j v ne

    -- a list with the same items, or with the same capacity
    pub slots_set_same : k < length lists → v.items ≡ (get_or lists k d).items → (j : ℕ) → slots_in (set lists k v) j ≡ slots_in lists j
    slots_set_same l e j =
        elim (cases_eq j k) [
          | inl s ↦ subst (λ (i : ℕ). slots_in (set lists k v) i ≡ slots_in lists i) (sym s) (slots_set l ∙ e ∙ sym (slots_read l))
          | inr ne ↦ slots_set_other j ne
        ]

    pub capacity_set : k < length lists → vec_capacity v ≡ vec_capacity (get_or lists k d) → (j : ℕ) → capacity_in (set lists k v) j ≡ capacity_in lists j
    capacity_set l e j =
        elim (cases_eq j k) [
          | inl s ↦ subst (λ (i : ℕ). capacity_in (set lists k v) i ≡ capacity_in lists i) (sym s) (at_same (λ (w : Vec ℕ Global). vec_capacity w) 0 lists k v l ∙ e ∙ sym (capacity_read l))
          | inr ne ↦ at_other (λ (w : Vec ℕ Global). vec_capacity w) 0 lists k j v ne
        ]

    pub capacity_set_at : k < length lists → capacity_in (set lists k v) k ≡ vec_capacity v
    capacity_set_at l = at_same (λ (w : Vec ℕ Global). vec_capacity w) 0 lists k v l

-- a list with room is there
pub within_capacity : (lists : List (Vec ℕ Global)) (k n : ℕ) → n < capacity_in lists k → k < length lists
within_capacity lists k n h = elim (cases_lt k (length lists)) [ inl l ↦ l | inr past ↦ absurd (none past) ]
  where
    none : length lists ≤ k → ⊥
    none past =
        let e = get_or_past (map (λ (v : Vec ℕ Global). vec_capacity v) lists) k 0 (let n = length-map lists (λ (v : Vec ℕ Global). vec_capacity v) in omega (arith, n)) in
        omega (arith, e, h)

-- the list of a Vec whose items were written through a slice
pub written : (v : Vec (Vec ℕ Global) Global) (ws : List (Vec ℕ Global)) → length ws ≡ length v.items → (with_items v ws).items ≡ ws
written v ws e = with_items_is v ws (e ∙ sym v.ok.0)

-- a list past the last one is empty
pub slots_past : (lists : List (Vec ℕ Global)) (k : ℕ) → length lists ≤ k → slots_in lists k ≡ []
slots_past lists k past =
    get_or_past (map (λ (v : Vec ℕ Global). v.items) lists) k [] (let n = length-map lists (λ (v : Vec ℕ Global). v.items) in omega (arith, n))

-- a list by its number, where those in a range changed
pub by_range : (first last j : ℕ) (v : Bool) (new old changed : List ℕ) → (nat_le first j && nat_le j last) ≡ v → (first ≤ j → j ≤ last → new ≡ changed) → (j < first → new ≡ old) → (last < j → new ≡ old) → new ≡ cond v changed old
by_range first last j true new old changed e a b c =
    let t = both (nat_le first j) (nat_le j last) e in
    a (le_is first j t.0) (le_is j last t.1)
by_range first last j false new old changed e a b c =
    elim (cases_lt j first) [
      | inl l ↦ b l
      | inr f ↦ elim (cases_lt last j) [ inl m ↦ c m | inr n ↦ absurd (let t : IsTrue (nat_le first j && nat_le j last) = join (nat_le first j) (nat_le j last) (is_le first j f) (is_le j last n) in cc) ]
    ]
