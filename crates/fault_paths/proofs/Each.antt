-- The lines of objects that follow each other, one object after the other.
use Rattle.std.proofs.Common.{◌≡◌, ℕ, zero, suc, ◌+◌, List, [], ◌∷◌, ◌++◌, drop, map, slice_get, Some, None, refl, sym, ap, ◌∙◌, arith, append_assoc}
use Rattle.serde_json.specs.Data.{Data}
use Rattle.fault_paths.specs.Paths.{each_line, entry_of, found_line}
use Rattle.fault_paths.specs.declared.sought.Sought.{Sought}

-- what is left at a place of a list
pub next : {A : Type 0} (f : A → Data) (xs : List A) (i : ℕ) (x : A) → slice_get xs i ≡ Some x → drop i (map f xs) ≡ f x ∷ drop (suc i) (map f xs)
next f [] i x e = let g : None ≡ Some x = e in cc
next f (y ∷ xs) zero x e = let g : y ≡ x = cc in rw g refl
next f (y ∷ xs) (suc i) x e = next f xs i x e

-- the line of the next object is added
pub one_more : {A : Type 0} (f : A → Data) (s : Sought) (name : List ℕ) (xs : List A) (i : ℕ) (x : A) (text longer whole : List ℕ) → slice_get xs i ≡ Some x
    → text ++ each_line s name i (drop i (map f xs)) ≡ whole → longer ≡ text ++ found_line s i (entry_of name s.at (f x)) → longer ++ each_line s name (i + 1) (drop (i + 1) (map f xs)) ≡ whole
one_more f s name xs i x text longer whole is so_far added =
    let line = found_line s i (entry_of name s.at (f x)) in
    let rest = each_line s name (suc i) (drop (suc i) (map f xs)) in
    let split : each_line s name i (drop i (map f xs)) ≡ line ++ rest = ap (each_line s name i) (next f xs i x is) in
    let one : i + 1 ≡ suc i = omega arith in
    rw (one, added, append_assoc text line rest) (ap (λ (ys : List ℕ). text ++ ys) (sym split) ∙ so_far)
