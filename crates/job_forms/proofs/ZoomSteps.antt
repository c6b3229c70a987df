-- The matrices of a cover, one after the other.
use Rattle.std.proofs.Common.{◌≡◌, ℕ, zero, suc, ◌+◌, ◌-◌, ◌≤◌, ◌<◌, List, [], ◌∷◌, ◌++◌, length, Option, Some, None, slice_get, refl, ap, subst, ◌∙◌, arith, length-append}
use Rattle.std.specs.Prelude.{IsSome, option_and_then}
use Rattle.std.specs.List.{AllByRecursion, flat_map, range_with_len}
use Rattle.catalog.specs.declared.catalogue.Catalogue.{Catalogue}
use Rattle.catalog.specs.declared.grid.Grid.{Grid}
use Rattle.catalog.specs.LookUp.{matrix_in}
use Rattle.catalog.specs.Valid.{IsNamedGrid, IsValid}
use Rattle.catalog.proofs.Found.{some_within}
use Rattle.job_forms.proofs.Pieces.{get_back, get_front}

-- WHICH MATRICES THERE ARE

pub within_some : {A : Type 0} (xs : List A) (i : ℕ) → IsSome (slice_get xs i) → i < length xs
within_some [] i s = absurd (cc)
within_some (x ∷ xs) zero s = omega arith
within_some (x ∷ xs) (suc i) s = let h = within_some xs i s in omega (arith, h)

pub all_at : {A : Type 0} (P : A → Type 0) (xs : List A) (i : ℕ) (x : A) → AllByRecursion P xs → slice_get xs i ≡ Some x → P x
all_at P [] i x all e = absurd (cc)
all_at P (y ∷ ys) zero x all e = let d : y ≡ x = cc in subst P d all.0
all_at P (y ∷ ys) (suc i) x all e = all_at P ys i x all.1 e

few : (grids : List Grid) (grid z : ℕ) (o : Option Grid) → slice_get grids grid ≡ o → AllByRecursion IsNamedGrid grids → IsSome (option_and_then (λ g. slice_get g.matrices z) o) → z < 30
few grids grid z None e all s = absurd (cc)
few grids grid z (Some g) e all s =
    let l = within_some g.matrices z s in let n = (all_at IsNamedGrid grids grid g all e).most in omega (arith, l, n)

-- the numbers of matrices are below 30
pub zoom_most : (c : Catalogue) (grid z : ℕ) → IsValid c → IsSome (matrix_in c grid z) → z < 30
zoom_most c grid z valid s = few c.grids grid z (slice_get c.grids grid) refl valid.named_grids s

before : (z stop : ℕ) (o : Option Grid) → z ≤ stop → IsSome (option_and_then (λ g. slice_get g.matrices stop) o) → IsSome (option_and_then (λ g. slice_get g.matrices z) o)
before z stop None l s = absurd (cc)
before z stop (Some g) l s = let m = within_some g.matrices stop s in some_within g.matrices z (omega (arith, l, m))

-- a grid that has a matrix has each one before it
pub matrix_before : (c : Catalogue) (grid z stop : ℕ) → z ≤ stop → IsSome (matrix_in c grid stop) → IsSome (matrix_in c grid z)
matrix_before c grid z stop l s = before z stop (slice_get c.grids grid) l s

-- ONE AFTER THE OTHER

-- the matrices from this one to before the end
abbrev pub rest : ℕ → ℕ → List ℕ
rest z end = range_with_len z (end - z)

pub rest_next : (z end : ℕ) → z < end → rest z end ≡ z ∷ rest (z + 1) end
rest_next z end l =
    let e : end - z ≡ suc (end - (z + 1)) = omega (arith, l) in
    ap (λ (n : ℕ). range_with_len z n) e

pub rest_none : (z end : ℕ) → end ≤ z → rest z end ≡ []
rest_none z end l = let e : end - z ≡ 0 = omega (arith, l) in ap (λ (n : ℕ). range_with_len z n) e

pub length_next : {A : Type 0} (f : ℕ → List A) (z end here : ℕ) → z < end → length (f z) ≡ here → length (flat_map f (rest z end)) ≡ here + length (flat_map f (rest (z + 1) end))
length_next f z end here l e =
    ap (λ (zs : List ℕ). length (flat_map f zs)) (rest_next z end l) ∙ length-append (f z) (flat_map f (rest (z + 1) end)) ∙ ap (λ (n : ℕ). n + length (flat_map f (rest (z + 1) end))) e

pub length_none : {A : Type 0} (f : ℕ → List A) (z end : ℕ) → end ≤ z → length (flat_map f (rest z end)) ≡ 0
length_none f z end l = ap (λ (zs : List ℕ). length (flat_map f zs)) (rest_none z end l)

-- the elements on this matrix come first, then the others
pub get_next : {A : Type 0} (f : ℕ → List A) (z end here left : ℕ) → z < end → length (f z) ≡ here → here ≤ left
    → slice_get (flat_map f (rest z end)) left ≡ slice_get (flat_map f (rest (z + 1) end)) (left - here)
get_next f z end here left l e m =
    let d : left ≡ here + (left - here) = omega (arith, m) in
    ap (λ (zs : List ℕ). slice_get (flat_map f zs) left) (rest_next z end l)
    ∙ ap (λ (n : ℕ). slice_get (f z ++ flat_map f (rest (z + 1) end)) n) d
    ∙ get_back (f z) (flat_map f (rest (z + 1) end)) here (left - here) e

pub get_here : {A : Type 0} (f : ℕ → List A) (z end left : ℕ) (x : A) → z < end → slice_get (f z) left ≡ Some x → slice_get (flat_map f (rest z end)) left ≡ Some x
get_here f z end left x l e =
    ap (λ (zs : List ℕ). slice_get (flat_map f zs) left) (rest_next z end l) ∙ get_front (f z) (flat_map f (rest (z + 1) end)) left x e

pub counted_next : {A : Type 0} (f : ℕ → List A) (z end all here : ℕ) → z < end → length (f z) ≡ here
    → all + length (flat_map f (rest z end)) ≡ all + here + length (flat_map f (rest (z + 1) end))
counted_next f z end all here l e = let n = length_next f z end here l e in omega (arith, n)
