-- A comparison that answers true exactly where two texts are equal.
use Rattle.std.proofs.Common.{◌≡◌, ℕ, List, Bool, true, false, refl, sym}
use Rattle.std.specs.Bool.{IsTrue}
use Rattle.std.specs.Str.{bytes_eq}
use Rattle.std.proofs.lemmas.Slice.Eq.{bytes_eq-Decides}

same_by : (r b : Bool) (P : Type 0) → (IsTrue r → P) × (P → IsTrue r) → (b ≡ true → P) × (P → b ≡ true) → r ≡ b
same_by true b P e d = sym (d.1 (e.0 refl))
same_by false true P e d = e.1 (d.0 refl)
same_by false false P e d = refl

pub same_is : (r : Bool) (xs ys : List ℕ) → (IsTrue r → xs ≡ ys) × (xs ≡ ys → IsTrue r) → r ≡ bytes_eq xs ys
same_is r xs ys e = same_by r (bytes_eq xs ys) (xs ≡ ys) e (bytes_eq-Decides xs ys)
