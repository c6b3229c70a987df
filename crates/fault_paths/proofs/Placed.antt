-- The lines of objects that follow each other by their places, and of the members of an object.
use Rattle.std.proofs.Common.{◌≡◌, ℕ, suc, ◌+◌, List, ◌++◌, drop, map, slice_get, Some, sym, ap, ◌∙◌, arith, append_assoc}
use Rattle.serde_json.specs.Data.{Data}
use Rattle.fault_paths.specs.Unknown.{by_place}
use Rattle.fault_paths.proofs.Each.{next}

-- those of the next object are added
pub one_placed : {A : Type 0} (f : A → Data) (line : ℕ → Data → List ℕ) (xs : List A) (i : ℕ) (x : A) (text longer whole : List ℕ) → slice_get xs i ≡ Some x
    → text ++ by_place line i (drop i (map f xs)) ≡ whole → longer ≡ text ++ line i (f x) → longer ++ by_place line (i + 1) (drop (i + 1) (map f xs)) ≡ whole
one_placed f line xs i x text longer whole is so_far added =
    let rest = by_place line (suc i) (drop (suc i) (map f xs)) in
    let split : by_place line i (drop i (map f xs)) ≡ line i (f x) ++ rest = ap (by_place line i) (next f xs i x is) in
    let one : i + 1 ≡ suc i = omega arith in
    rw (one, added, append_assoc text (line i (f x)) rest) (ap (λ (ys : List ℕ). text ++ ys) (sym split) ∙ so_far)
