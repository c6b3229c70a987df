-- What is sorted is in the order in which a compaction writes.
use Rattle.std.proofs.Common.{ℕ, zero, suc, ◌≡◌, ◌≢◌, ◌<◌, Bool, true, false, cond, List, [], ◌∷◌, ◌++◌, length, length-append, map, take, find, slice_get, add-one, Option, Some, None, Ordering, Less, Equal, Greater, refl, sym, ap, subst, ◌∙◌, arith}
use Rattle.std.specs.Prelude.{is_some, slice_index_or}
use Rattle.std.specs.Cmp.{IsStrictWeakOrder, IsTotalOrder, upto}
use Rattle.std.specs.Cmp.Lexicographic.{nat_list_cmp_total, slice_cmp}
use Rattle.std.specs.FinMap.{nat_cmp-IsAntisymmetric, slice_cmp-IsAntisymmetric}
use Rattle.std.specs.List.{AllByRecursion, IsDistinct}
use Rattle.std.specs.List.Sorted.{IsPermutation, IsSortedBy}
use Rattle.std.specs.Option.{option_map}
use Rattle.std.specs.Ordering.{is_gt, is_lt, nat_cmp, ordering_reverse}
use Rattle.std.proofs.lemmas.List.Elements.{All-from_recursion, recursion_from_All}
use Rattle.std.proofs.lemmas.List.Sorted.{All-permutation, IsPermutation-map}
use Rattle.std.proofs.lemmas.Map.Keys.{IsDistinct-IsPermutation}
use Rattle.std.proofs.lemmas.List.{append_cancel_left}
use Rattle.std.proofs.Math.Seq.{take-append_seam}
use Rattle.std.proofs.lemmas.Option.{slice_get-get_or}
use Rattle.expiry_policy.specs.declared.uses.Use.{Use}
use Rattle.expiry_policy.specs.Victims.{fields}
use Rattle.metatile_locks.proofs.Lists.{all_map, all_weaker}
use Rattle.metatile_plan.specs.declared.metatile.MetaKey.{MetaKey}
use Rattle.metatile_plan.specs.Keys.{same_meta}
use Rattle.metatile_plan.proofs.Same.{same_meta_self}
use Rattle.cabinet.specs.declared.kept.Kept.{Kept}
use Rattle.cabinet.specs.declared.ranking.Ranked.{Ranked}
use Rattle.cabinet.specs.Consistent.{IsConsistent, Parts, seen}
use Rattle.cabinet.specs.Counted.{last_use, use_of}
use Rattle.cabinet.specs.History.{CabinetStanding, History, is_of, whole}
use Rattle.cabinet.specs.Shelved.{UsesByKey, listed, use_on}
use Rattle.cabinet.specs.Writing.{IsInOrderBy, IsInWritingOrder, comes_before, last_of, rank_of, rank_on, ranked_by, writing_rank}
use Rattle.cabinet.specs.State.{State}
use Rattle.cabinet.proofs.Lists.{all_of}
use Rattle.cabinet.proofs.Once.{AreOnce, off_of, once}
use Rattle.cabinet.proofs.UsesAfter.{same_swap}

-- THE ORDER OF LISTS OF NUMBERS

module _ {K : Type 0} (R : K → K → Ordering) (o : IsTotalOrder R) where
  turned : (r : Ordering) → is_lt (ordering_reverse r) ≡ is_gt r
  turned Less = refl
  turned Equal = refl
  turned Greater = refl

  one_way_on : (r : Ordering) → is_lt r ≡ true → is_lt (ordering_reverse r) ≡ false
  one_way_on Less e = refl
  one_way_on Equal e = absurd (cc)
  one_way_on Greater e = absurd (cc)

  other_way : (x y : K) → is_lt (R x y) ≡ is_gt (R y x)
  other_way x y = ap is_lt (o.antisymm x y) ∙ turned (R y x)

  weak_order : IsStrictWeakOrder (λ x y. is_lt (R x y))
  weak_order = record {
    one_way = λ x y e. ap is_lt (o.antisymm y x) ∙ one_way_on (R x y) e;
    chain = λ x y z e f. other_way x z ∙ upto o z y x (sym (other_way y z) ∙ f) (sym (other_way x y) ∙ e);
  }

-- the test by which a list is sorted
abbrev pub lesser_rank : Ranked → Ranked → Bool
lesser_rank x y = comes_before (rank_of x) (rank_of y)

pub ranks_weak : IsStrictWeakOrder lesser_rank
ranks_weak =
    let w = weak_order (slice_cmp nat_cmp) nat_list_cmp_total in
    record { one_way = λ x y e. w.one_way (rank_of x) (rank_of y) e; chain = λ x y z e f. w.chain (rank_of x) (rank_of y) (rank_of z) e f }

-- none comes before the one that stands right before it
abbrev Steps : List Ranked → Type 0
Steps xs = (k : ℕ) (d : Ranked) → suc k < length xs → lesser_rank (slice_index_or xs (suc k) d) (slice_index_or xs k d) ≡ false

in_steps : (xs : List Ranked) → IsSortedBy lesser_rank xs → Steps xs
in_steps xs s k d l = subst (λ (n : ℕ). lesser_rank (slice_index_or xs n d) (slice_index_or xs k d) ≡ false) (add-one k) (s k d (omega arith) (omega arith))

steps_order : (xs : List Ranked) → Steps xs → IsInOrderBy rank_of xs
steps_order [] s = tt
steps_order (x ∷ []) s = (tt, tt)
steps_order (x ∷ y ∷ ys) s =
    let rest = steps_order (y ∷ ys) (λ k d l. s (suc k) d (omega arith)) in
    let first : lesser_rank y x ≡ false = s 0 x (omega arith) in
    ((first, all_weaker (λ (z : Ranked). lesser_rank z y ≡ false) (λ z. lesser_rank z x ≡ false) (λ z e. ranks_weak.chain z y x e first) ys rest.0), rest)

pub sorted_order : (xs : List Ranked) → IsSortedBy lesser_rank xs → IsInOrderBy rank_of xs
sorted_order xs s = steps_order xs (in_steps xs s)

-- ON A SHELF

-- each of the list has its last use
abbrev pub HasItsUse : UsesByKey → Ranked → Type 0
HasItsUse uses x = x ≡ ranked_by uses x.kept

pub moved : {X : Type 0} (P : X → Type 0) (xs ys : List X) → IsPermutation xs ys → AllByRecursion P xs → AllByRecursion P ys
moved P xs ys p a = recursion_from_All P ys (All-permutation P xs ys p (All-from_recursion P xs a))

itself_ranked : (uses : UsesByKey) (ts : List Kept) → AllByRecursion (HasItsUse uses) (map (ranked_by uses) ts)
itself_ranked uses [] = tt
itself_ranked uses (t ∷ ts) = (refl, itself_ranked uses ts)

pub kept_of_ranked : (uses : UsesByKey) (ts : List Kept) → map (λ x. x.kept) (map (ranked_by uses) ts) ≡ ts
kept_of_ranked uses [] = refl
kept_of_ranked uses (t ∷ ts) = ap (λ us. t ∷ us) (kept_of_ranked uses ts)

order_kept : (uses : UsesByKey) (xs : List Ranked) → AllByRecursion (HasItsUse uses) xs → IsInOrderBy rank_of xs → IsInOrderBy (λ t. rank_of (ranked_by uses t)) (map (λ x. x.kept) xs)
order_kept uses [] a o = tt
order_kept uses (x ∷ xs) a o = (later xs a.1 o.0, order_kept uses xs a.1 o.1)
  where
    later : (ys : List Ranked) → AllByRecursion (HasItsUse uses) ys → AllByRecursion (λ y. comes_before (rank_of y) (rank_of x) ≡ false) ys
        → AllByRecursion (λ u. comes_before (rank_of (ranked_by uses u)) (rank_of (ranked_by uses x.kept)) ≡ false) (map (λ y. y.kept) ys)
    later [] b e = tt
    later (y ∷ ys) b e = ((λ i. comes_before (rank_of (sym b.0 i)) (rank_of (sym a.0 i))) ∙ e.0, later ys b.1 e.1)

pub shelf_order : (uses : UsesByKey) (ts : List Kept) (before sorted : List Ranked) → before ≡ map (ranked_by uses) ts → IsPermutation before sorted → IsInOrderBy rank_of sorted → IsInOrderBy (λ t. rank_of (ranked_by uses t)) (map (λ x. x.kept) sorted)
shelf_order uses ts before sorted is p o =
    order_kept uses sorted (moved (HasItsUse uses) before sorted p (subst (AllByRecursion (HasItsUse uses)) (sym is) (itself_ranked uses ts))) o

-- IN A CABINET

is_there : (ts : List Kept) (i : ℕ) (t : Kept) → slice_get ts i ≡ Some t → is_some (find (is_of t.meta) ts) ≡ true
is_there [] i t e = absurd (cc)
is_there (x ∷ xs) zero t e = let same : x ≡ t = cc in rw (same, same_meta_self t.meta) refl
is_there (x ∷ xs) (suc i) t e = chosen (same_meta x.meta t.meta) (is_there xs i t e)
  where
    chosen : (v : Bool) → is_some (find (is_of t.meta) xs) ≡ true → is_some (cond v (Some x) (find (is_of t.meta) xs)) ≡ true
    chosen true h = refl
    chosen false h = h

last_there : (o : Option Kept) (u : Use) → is_some o ≡ true → last_of (option_map (λ t. u) o) ≡ u.last
last_there None u e = absurd (cc)
last_there (Some t) u e = refl

order_as : (f g : Kept → List ℕ) (ts : List Kept) → AllByRecursion (λ t. f t ≡ g t) ts → IsInOrderBy f ts → IsInOrderBy g ts
order_as f g [] a o = tt
order_as f g (t ∷ ts) a o = (later ts a.1 o.0, order_as f g ts a.1 o.1)
  where
    later : (us : List Kept) → AllByRecursion (λ u. f u ≡ g u) us → AllByRecursion (λ u. comes_before (f u) (f t) ≡ false) us → AllByRecursion (λ u. comes_before (g u) (g t) ≡ false) us
    later [] b e = tt
    later (u ∷ us) b e = ((λ i. comes_before (sym b.0 i) (sym a.0 i)) ∙ e.0, later us b.1 e.1)

-- EACH BEFORE ALL THAT FOLLOW IT

-- keys of the same numbers are one
same_fields : (a b : MetaKey) → fields a ≡ fields b → a ≡ b
same_fields a b is =
    let layer : a.theme.layer ≡ b.theme.layer = cc in
    let style : a.theme.style ≡ b.theme.style = cc in
    let those : List ℕ = a.grid ∷ a.z ∷ a.row ∷ a.col ∷ [] in
    let these : List ℕ = b.grid ∷ b.z ∷ b.row ∷ b.col ∷ [] in
    let rest : a.theme.dims ++ (a.grid ∷ a.z ∷ a.row ∷ a.col ∷ []) ≡ b.theme.dims ++ (b.grid ∷ b.z ∷ b.row ∷ b.col ∷ []) = cc in
    let long : length a.theme.dims ≡ length b.theme.dims = omega (arith, ap length rest, length-append a.theme.dims (a.grid ∷ a.z ∷ a.row ∷ a.col ∷ []), length-append b.theme.dims (b.grid ∷ b.z ∷ b.row ∷ b.col ∷ [])) in
    let dims : a.theme.dims ≡ b.theme.dims = sym (take-append_seam a.theme.dims those) ∙ (λ i. take (long i) (rest i)) ∙ take-append_seam b.theme.dims these in
    let ends : a.grid ∷ a.z ∷ a.row ∷ a.col ∷ [] ≡ b.grid ∷ b.z ∷ b.row ∷ b.col ∷ [] = append_cancel_left a.theme.dims those these (rest ∙ ap (λ (ds : List ℕ). ds ++ these) (sym dims)) in
    let grid : a.grid ≡ b.grid = cc in
    let z : a.z ≡ b.z = cc in
    let row : a.row ≡ b.row = cc in
    let col : a.col ≡ b.col = cc in
    λ i. record { theme = record { layer = layer i; style = style i; dims = dims i }; grid = grid i; z = z i; row = row i; col = col i }

-- of two keys that differ one is ranked first
strictly : (x y : ℕ) (m n : MetaKey) → same_meta m n ≡ false → comes_before (y ∷ fields n) (x ∷ fields m) ≡ false → comes_before (x ∷ fields m) (y ∷ fields n) ≡ true
strictly x y m n off e = ap is_lt (nat_list_cmp_total.antisymm (x ∷ fields m) (y ∷ fields n)) ∙ chosen (slice_cmp nat_cmp (y ∷ fields n) (x ∷ fields m)) refl e
  where
    chosen : (r : Ordering) → slice_cmp nat_cmp (y ∷ fields n) (x ∷ fields m) ≡ r → is_lt r ≡ false → is_lt (ordering_reverse r) ≡ true
    chosen Less is e = absurd (cc)
    chosen Equal is e =
        let ranks : y ∷ fields n ≡ x ∷ fields m = slice_cmp-IsAntisymmetric nat_cmp-IsAntisymmetric (y ∷ fields n) (x ∷ fields m) is in
        let keys : fields n ≡ fields m = cc in
        let same : same_meta m n ≡ true = subst (λ (k : MetaKey). same_meta m k ≡ true) (sym (same_fields n m keys)) (same_meta_self m) in
        absurd (cc)
    chosen Greater is e = refl

distinct_of : (ts : List Kept) → AreOnce ts → IsDistinct same_meta (map (λ t. t.meta) ts)
unfolding IsDistinct
distinct_of [] a = tt
distinct_of (t ∷ ts) a = (
  all_map (λ (u : Kept). u.meta) (λ m. same_meta t.meta m ≡ false) ts (all_weaker (λ (u : Kept). t.meta ≢ u.meta) (λ u. same_meta t.meta u.meta ≡ false) (λ u off. off_of u.meta t.meta (λ e. off (sym e))) ts a.0),
  distinct_of ts a.1,
)

strict_order : (s : State) (ts : List Kept) → IsDistinct same_meta (map (λ t. t.meta) ts) → IsInOrderBy (writing_rank s) ts → IsInWritingOrder s ts
unfolding IsDistinct
strict_order s [] d o = tt
strict_order s (t ∷ ts) d o = (later ts d.0 o.0, strict_order s ts d.1 o.1)
  where
    later : (us : List Kept) → AllByRecursion (λ m. same_meta t.meta m ≡ false) (map (λ u. u.meta) us) → AllByRecursion (λ u. comes_before (writing_rank s u) (writing_rank s t) ≡ false) us
        → AllByRecursion (λ u. comes_before (writing_rank s t) (writing_rank s u) ≡ true) us
    later [] b e = tt
    later (u ∷ us) b e = (strictly (last_use s.history t.meta) (last_use s.history u.meta) t.meta u.meta b.0 e.0, later us b.1 e.1)

pub cabinet_order : (p : Parts) (h : History) → IsConsistent p h → (kept : List Kept) → IsPermutation (listed p.shelf.blobs) kept → IsInOrderBy (rank_on p.shelf) kept → IsInWritingOrder (seen p h) kept
cabinet_order p h k kept moves order = strict_order (seen p h) kept distinct weak
  where
    same_last : (t : Kept) → is_some (find (is_of t.meta) (listed p.shelf.blobs)) ≡ true → last_of (use_on p.shelf t.meta) ≡ last_use (whole p.opening h) t.meta
    same_last t e = ap last_of (k.uses t.meta) ∙ last_there (find (is_of t.meta) (listed p.shelf.blobs)) (use_of (whole p.opening h) t.meta) e

    same_ranks : AllByRecursion (λ t. rank_on p.shelf t ≡ writing_rank (seen p h) t) (listed p.shelf.blobs)
    same_ranks = all_of (λ (t : Kept). rank_on p.shelf t ≡ writing_rank (seen p h) t) (listed p.shelf.blobs)
        (λ t has. ap (λ (n : ℕ). n ∷ fields t.meta) (same_last t (is_there (listed p.shelf.blobs) has.0 t (slice_get-get_or (listed p.shelf.blobs) has.0 t has.1 ∙ ap (λ (u : Kept). Some u) has.2))))

    weak : IsInOrderBy (writing_rank (seen p h)) kept
    weak = order_as (rank_on p.shelf) (writing_rank (seen p h)) kept (moved (λ (t : Kept). rank_on p.shelf t ≡ writing_rank (seen p h) t) (listed p.shelf.blobs) kept moves same_ranks) order

    distinct : IsDistinct same_meta (map (λ t. t.meta) kept)
    distinct =
        let each_once = subst AreOnce (ap (λ (x : CabinetStanding). x.kept) k.stands) (once p.shelf.catalogue p.opening h k.known.possible.opens) in
        IsDistinct-IsPermutation same_meta same_swap (map (λ (t : Kept). t.meta) (listed p.shelf.blobs)) (map (λ (t : Kept). t.meta) kept) (IsPermutation-map (λ (t : Kept). t.meta) (listed p.shelf.blobs) kept moves)
        (distinct_of (listed p.shelf.blobs) each_once)
