-- The regions of what is kept, and where the next one goes.
use Rattle.std.proofs.Common.{ℕ, ◌≡◌, ◌≢◌, ◌+◌, ◌<◌, ◌≤◌, Bool, true, false, cond, List, [], ◌∷◌, ◌++◌, suc, Option, Some, None, refl, sym, ap, subst, ◌∙◌, inl, inr, arith}
use Rattle.std.specs.Prelude.{nat_lt, nat_le}
use Rattle.std.specs.List.{AllByRecursion, Contains}
use Rattle.std.proofs.lemmas.Bool.{cases_lt}
use Rattle.std.proofs.lemmas.Bool.Decides.{nat_tests}
use Rattle.extent_map.specs.declared.part.Extent.{Extent}
use Rattle.extent_map.specs.Parts.{part_at, end_of, AreApart, LieInOrder, inserted}
use Rattle.extent_map.specs.Spaces.{IsFree, NoneFree, NoneFreeBelow}
use Rattle.extent_map.proofs.Order.{low_high, earlier}
use Rattle.metatile_locks.proofs.Lists.{all_weaker}
use Rattle.cabinet.specs.declared.kept.Kept.{Kept}
use Rattle.cabinet.specs.Gaps.{region, regions, lowest_gap}
use Rattle.cabinet.proofs.Lists.{all_right}

below_is : (x y : ℕ) → nat_lt x y ≡ true → x < y
below_is x y e = grind (arith, nat_tests)

not_below_is : (x y : ℕ) → nat_lt x y ≡ false → y ≤ x
not_below_is x y e = grind (arith, nat_tests)

is_below : (x y : ℕ) → x < y → nat_lt x y ≡ true
is_below x y l = grind (arith, nat_tests)

is_not_below : (x y : ℕ) → y ≤ x → nat_lt x y ≡ false
is_not_below x y l = grind (arith, nat_tests)

-- PARTS OF DIFFERENT PLACES

-- all that is inserted into or stands
all_inserted : (P : Extent → Type 0) (p : Extent) (xs : List Extent) → AllByRecursion P (inserted p xs) → P p × AllByRecursion P xs
all_inserted P p [] a = (a.0, tt)
all_inserted P p (x ∷ xs) a = chosen (nat_lt p.place x.place) a (all_inserted P p xs)
  where
    chosen : (v : Bool) → AllByRecursion P (cond v (p ∷ x ∷ xs) (x ∷ inserted p xs)) → (AllByRecursion P (inserted p xs) → P p × AllByRecursion P xs) → P p × AllByRecursion P (x ∷ xs)
    chosen true a ih = (a.0, a.1)
    chosen false a ih = let r = ih a.1 in (r.0, (a.0, r.1))

all_behind : (low : ℕ) (xs : List Extent) (high : ℕ) → LieInOrder low xs high → AllByRecursion (λ x. low ≤ x.place) xs
all_behind low [] high o = tt
all_behind low (x ∷ xs) high o = (o.0, all_weaker (λ (y : Extent). end_of x ≤ y.place) (λ y. low ≤ y.place) (λ y l. let a = o.0 in omega arith) xs (all_behind (end_of x) xs high o.2))

-- in a list in order no other part is at the place of one that was inserted, and what is left without it is in order
pub record Alone (low : ℕ) (p : Extent) (xs : List Extent) (high : ℕ) : Type 0 where
  pub places : AllByRecursion (λ x. x.place ≢ p.place) xs
  pub order : LieInOrder low xs high

pub alone : (low : ℕ) (p : Extent) (xs : List Extent) (high : ℕ) → LieInOrder low (inserted p xs) high → Alone low p xs high
alone low p [] high o = record { places = tt; order = let a = o.0 in let b = o.2 in omega arith }
alone low p (x ∷ xs) high o = chosen (nat_lt p.place x.place) refl o (alone (end_of x) p xs high)
  where
    chosen : (v : Bool) → nat_lt p.place x.place ≡ v → LieInOrder low (cond v (p ∷ x ∷ xs) (x ∷ inserted p xs)) high → (LieInOrder (end_of x) (inserted p xs) high → Alone (end_of x) p xs high) → Alone low p (x ∷ xs) high
    chosen true is o ih = record {
      places = all_weaker (λ (y : Extent). end_of p ≤ y.place) (λ y. y.place ≢ p.place) (λ y l e. let some = o.1 in omega arith) (x ∷ xs) (all_behind (end_of p) (x ∷ xs) high o.2);
      order = earlier low (end_of p) (x ∷ xs) high (let a = o.0 in omega arith) o.2;
    }
    chosen false is o ih =
        let r = ih o.2 in
        let behind = (all_inserted (λ (y : Extent). end_of x ≤ y.place) p xs (all_behind (end_of x) (inserted p xs) high o.2)).0 in
        record { places = ((λ e. let some = o.1 in omega arith), r.places); order = (o.0, o.1, r.order) }

-- INSERTED IN EITHER ORDER

front_of : (p q : Extent) (xs : List Extent) → p.place < q.place → inserted p (q ∷ xs) ≡ p ∷ q ∷ xs
front_of p q xs l = rw (is_below p.place q.place l) refl

behind_of : (p q : Extent) (xs : List Extent) → q.place ≤ p.place → inserted p (q ∷ xs) ≡ q ∷ inserted p xs
behind_of p q xs l = rw (is_not_below p.place q.place l) refl

either_order : (p q : Extent) (xs : List Extent) → p.place < q.place → inserted p (inserted q xs) ≡ inserted q (inserted p xs)
either_order p q [] l = front_of p q [] l ∙ sym (behind_of q p [] (omega arith))
either_order p q (x ∷ xs) l = chosen (nat_lt q.place x.place) (nat_lt p.place x.place) refl refl (either_order p q xs l)
  where
    chosen : (v w : Bool) → nat_lt q.place x.place ≡ v → nat_lt p.place x.place ≡ w → inserted p (inserted q xs) ≡ inserted q (inserted p xs) → inserted p (cond v (q ∷ x ∷ xs) (x ∷ inserted q xs)) ≡ inserted q (cond w (p ∷ x ∷ xs) (x ∷ inserted p xs))
    chosen true true a b ih = front_of p q (x ∷ xs) l ∙ sym (behind_of q p (x ∷ xs) (omega arith) ∙ ap (λ ys. p ∷ ys) (front_of q x xs (below_is q.place x.place a)))
    chosen true false a b ih = let c = below_is q.place x.place a in let d = not_below_is p.place x.place b in absurd (omega arith)
    chosen false true a b ih = front_of p x (inserted q xs) (below_is p.place x.place b) ∙ sym (behind_of q p (x ∷ xs) (omega arith) ∙ ap (λ ys. p ∷ ys) (behind_of q x xs (not_below_is q.place x.place a)))
    chosen false false a b ih = behind_of p x (inserted q xs) (not_below_is p.place x.place b) ∙ ap (λ ys. x ∷ ys) ih ∙ sym (behind_of q x (inserted p xs) (not_below_is q.place x.place a))

pub any_order : (p q : Extent) (xs : List Extent) → p.place ≢ q.place → inserted p (inserted q xs) ≡ inserted q (inserted p xs)
any_order p q xs apart = elim (cases_lt p.place q.place) [
  | inl under ↦ either_order p q xs under
  | inr over ↦ elim (cases_lt q.place p.place) [
    | inl under ↦ sym (either_order q p xs under)
    | inr most ↦ absurd (apart (omega arith))
  ]
]

-- A REGION OF MANY

pub all_regions : (P : Extent → Type 0) (ts : List Kept) → AllByRecursion P (regions ts) → AllByRecursion (λ t. P (region t)) ts
all_regions P [] a = tt
all_regions P (t ∷ ts) a = let r = all_inserted P (region t) (regions ts) a in (r.0, all_regions P ts r.1)

-- the region of one of them can be inserted last
pub one_of : (low : ℕ) (front : List Kept) (t : Kept) (back : List Kept) (high : ℕ) → LieInOrder low (regions (front ++ t ∷ back)) high → regions (front ++ t ∷ back) ≡ inserted (region t) (regions (front ++ back))
one_of low [] t back high o = refl
one_of low (x ∷ front) t back high o =
    let a = alone low (region x) (regions (front ++ t ∷ back)) high o in
    let apart = (all_right (λ (y : Kept). y.place ≢ x.place) front (t ∷ back) (all_regions (λ y. y.place ≢ x.place) (front ++ t ∷ back) a.places)).0 in
    ap (inserted (region x)) (one_of low front t back high a.order) ∙ any_order (region x) (region t) (regions (front ++ back)) (λ e. apart (sym e))

-- a region at a place where none is can be inserted first or last
pub last_of : (t : Kept) (ts : List Kept) → AllByRecursion (λ x. x.place ≢ t.place) (regions ts) → regions (ts ++ t ∷ []) ≡ inserted (region t) (regions ts)
last_of t ts a = pushed ts (all_regions (λ x. x.place ≢ t.place) ts a)
  where
    pushed : (xs : List Kept) → AllByRecursion (λ x. x.place ≢ t.place) xs → regions (xs ++ t ∷ []) ≡ inserted (region t) (regions xs)
    pushed [] a = refl
    pushed (x ∷ xs) a = ap (inserted (region x)) (pushed xs a.1) ∙ any_order (region x) (region t) (regions xs) a.0

-- TAKEN OUT

abbrev without_place : ℕ → List Extent → List Extent
without_place n [] = []
without_place n (x ∷ xs) = cond (nat_lt x.place n) (x ∷ without_place n xs) (cond (nat_lt n x.place) (x ∷ xs) xs)

itself_not : (n : ℕ) → nat_lt n n ≡ false
itself_not n = grind (arith, nat_tests)

without_inserted : (p : Extent) (xs : List Extent) → AllByRecursion (λ x. x.place ≢ p.place) xs → without_place p.place (inserted p xs) ≡ xs
without_inserted p [] a = rw (itself_not p.place) refl
without_inserted p (x ∷ xs) a = chosen (nat_lt p.place x.place) refl (without_inserted p xs a.1)
  where
    chosen : (v : Bool) → nat_lt p.place x.place ≡ v → without_place p.place (inserted p xs) ≡ xs → without_place p.place (cond v (p ∷ x ∷ xs) (x ∷ inserted p xs)) ≡ x ∷ xs
    chosen true is ih = rw (itself_not p.place) refl
    chosen false is ih =
        let n = a.0 in let l = not_below_is p.place x.place is in
        rw (is_below x.place p.place (omega arith)) (ap (λ ys. x ∷ ys) ih)

-- what is left when a part is taken out is one list
pub taken_out : (low : ℕ) (p : Extent) (xs ys : List Extent) (high : ℕ) → LieInOrder low (inserted p xs) high → inserted p xs ≡ inserted p ys → xs ≡ ys
taken_out low p xs ys high o e =
    sym (without_inserted p xs (alone low p xs high o).places)
    ∙ ap (without_place p.place) e
    ∙ without_inserted p ys (alone low p ys high (subst (λ (zs : List Extent). LieInOrder low zs high) e o)).places

pub has_inserted : (p : Extent) (xs : List Extent) → Contains (inserted p xs) p
has_inserted p [] = (0, omega arith, refl)
has_inserted p (x ∷ xs) = chosen (nat_lt p.place x.place) (has_inserted p xs)
  where
    chosen : (v : Bool) → Contains (inserted p xs) p → Contains (cond v (p ∷ x ∷ xs) (x ∷ inserted p xs)) p
    chosen true h = (0, omega arith, refl)
    chosen false h = let l = h.1 in (suc h.0, omega arith, h.2)

-- THE LOWEST GAP

-- what the search from a place on finds
pub record IsGap (from : ℕ) (parts : List Extent) (size bytes place : ℕ) : Type 0 where
  pub behind : from ≤ place
  pub free : IsFree parts size (part_at place bytes)
  pub lowest : (lower : ℕ) → from ≤ lower → lower < place → IsFree parts size (part_at lower bytes) → ⊥

ahead : (low : ℕ) (ps : List Extent) (high : ℕ) (p : Extent) → LieInOrder low ps high → end_of p ≤ low → AllByRecursion (λ q. AreApart q p) ps
ahead low [] high p h k = tt
ahead low (y ∷ ps) high p h k = let m = h.0 in (inr (omega arith), ahead (end_of y) ps high p h.2 (omega arith))

le_is : (x y : ℕ) → nat_le x y ≡ true → x ≤ y
le_is x y e = grind (arith, nat_tests)

not_le_is : (x y : ℕ) → nat_le x y ≡ false → x ≤ y → ⊥
not_le_is x y e l = let f : nat_le x y ≡ true = grind (arith, nat_tests) in let g : true ≡ false = sym f ∙ e in cc

-- a place before the end of the first part, and from its start's gap on, is not free
not_before : (from : ℕ) (p : Extent) (ps : List Extent) (size bytes lower : ℕ) → (from + bytes ≤ p.place → ⊥) → from ≤ lower → lower < end_of p → IsFree (p ∷ ps) size (part_at lower bytes) → ⊥
not_before from p ps size bytes lower tight behind l free = elim free.1.0 [
  | inl a ↦ omega arith
  | inr b ↦ tight (omega arith)
]

pub gap_some : (from : ℕ) (parts : List Extent) (size bytes x : ℕ) → LieInOrder from parts size → lowest_gap from parts size bytes ≡ Some x → IsGap from parts size bytes x
gap_some from [] size bytes x o e = chosen (nat_le (from + bytes) size) refl e
  where
    chosen : (v : Bool) → nat_le (from + bytes) size ≡ v → cond v (Some from) None ≡ Some x → IsGap from [] size bytes x
    chosen true is e = let d : from ≡ x = cc in let l = le_is (from + bytes) size is in record { behind = omega arith; free = (omega arith, tt); lowest = λ lower a b f. omega arith }
    chosen false is e = absurd (cc)
gap_some from (p ∷ ps) size bytes x o e = chosen (nat_le (from + bytes) p.place) refl e (gap_some (end_of p) ps size bytes x o.2)
  where
    chosen : (v : Bool) → nat_le (from + bytes) p.place ≡ v → cond v (Some from) (lowest_gap (end_of p) ps size bytes) ≡ Some x → (lowest_gap (end_of p) ps size bytes ≡ Some x → IsGap (end_of p) ps size bytes x) → IsGap from (p ∷ ps) size bytes x
    chosen true is e ih =
        let d : from ≡ x = cc in let l = le_is (from + bytes) p.place is in let m = low_high (end_of p) ps size o.2 in
        record { behind = omega arith; free = (omega arith, (inr (omega arith), ahead (end_of p) ps size (part_at x bytes) o.2 (omega arith))); lowest = λ lower a b f. omega arith }
    chosen false is e ih =
        let r = ih e in let b = r.behind in let a = o.0 in record {
          behind = omega arith;
          free = (r.free.0, (inl b, r.free.1));
          lowest = λ lower from_on below free. elim (cases_lt lower (end_of p)) [
            | inl under ↦ not_before from p ps size bytes lower (not_le_is (from + bytes) p.place is) from_on under free
            | inr over ↦ r.lowest lower over below (free.0, free.1.1)
          ];
        }

gap_none : (from : ℕ) (parts : List Extent) (size bytes : ℕ) → LieInOrder from parts size → lowest_gap from parts size bytes ≡ None → (lower : ℕ) → from ≤ lower → IsFree parts size (part_at lower bytes) → ⊥
gap_none from [] size bytes o e lower from_on free = chosen (nat_le (from + bytes) size) refl e
  where
    chosen : (v : Bool) → nat_le (from + bytes) size ≡ v → cond v (Some from) None ≡ None → ⊥
    chosen true is e = cc
    chosen false is e = let l = free.0 in not_le_is (from + bytes) size is (omega arith)
gap_none from (p ∷ ps) size bytes o e lower from_on free = chosen (nat_le (from + bytes) p.place) refl e (gap_none (end_of p) ps size bytes o.2)
  where
    chosen : (v : Bool) → nat_le (from + bytes) p.place ≡ v → cond v (Some from) (lowest_gap (end_of p) ps size bytes) ≡ None
        → (lowest_gap (end_of p) ps size bytes ≡ None → (other : ℕ) → end_of p ≤ other → IsFree ps size (part_at other bytes) → ⊥) → ⊥
    chosen true is e ih = cc
    chosen false is e ih = elim (cases_lt lower (end_of p)) [
      | inl under ↦ not_before from p ps size bytes lower (not_le_is (from + bytes) p.place is) from_on under free
      | inr over ↦ ih e lower over (free.0, free.1.1)
    ]

-- a free place below which none is free is the lowest gap
pub gap_at : (parts : List Extent) (size bytes x : ℕ) → LieInOrder 0 parts size → IsFree parts size (part_at x bytes) → NoneFreeBelow parts size bytes x → lowest_gap 0 parts size bytes ≡ Some x
gap_at parts size bytes x o free below = chosen (lowest_gap 0 parts size bytes) refl
  where
    chosen : (found : Option ℕ) → lowest_gap 0 parts size bytes ≡ found → lowest_gap 0 parts size bytes ≡ Some x
    chosen None e = absurd (gap_none 0 parts size bytes o e x (omega arith) free)
    chosen (Some y) e =
        let g = gap_some 0 parts size bytes y o e in
        let same : y ≡ x = elim (cases_lt x y) [
          | inl under ↦ absurd (g.lowest x (omega arith) under free)
          | inr over ↦ elim (cases_lt y x) [
            | inl under ↦ absurd (below y under g.free)
            | inr most ↦ omega arith
          ]
        ] in
        e ∙ ap Some same

-- where no place is free there is no gap
pub no_gap : (parts : List Extent) (size bytes : ℕ) → LieInOrder 0 parts size → NoneFree parts size bytes → lowest_gap 0 parts size bytes ≡ None
no_gap parts size bytes o none = chosen (lowest_gap 0 parts size bytes) refl
  where
    chosen : (found : Option ℕ) → lowest_gap 0 parts size bytes ≡ found → lowest_gap 0 parts size bytes ≡ None
    chosen None e = e
    chosen (Some y) e = absurd (none y (gap_some 0 parts size bytes y o e).free)
