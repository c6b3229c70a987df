-- Two parts that were sent, the second one behind the first.
use Rattle.std.proofs.Common.{◌≡◌, ℕ, suc, ◌+◌, ◌<◌, List, [], ◌∷◌, ◌++◌, length, take, Option, refl, sym, ap, subst, arith}
use Rattle.std.proofs.lemmas.List.{length-append, take-append-le}
use Rattle.std.proofs.KnownBytes.{Appends-trans}
use Rattle.std.specs.Io.KnownBytes.{Appends}

-- the first of both are the first of the first part
pub first_sent : (a b : Option (List ℕ)) (x y : List ℕ) (n : ℕ) → n < length x → Appends a b (take n x) → (n < length (x ++ y)) × Appends a b (take n (x ++ y))
first_sent a b x y n l h = (let e = length-append x y in omega arith, subst (Appends a b) (sym (take-append-le n x y (omega arith))) h)

take_behind : (x y : List ℕ) (n : ℕ) → take (length x + n) (x ++ y) ≡ x ++ take n y
take_behind [] y n = let e : 0 + n ≡ n = omega arith in rw e refl
take_behind (b ∷ x) y n =
    let e : length (b ∷ x) + n ≡ suc (length x + n) = omega arith in
    rw e (ap (λ (xs : List ℕ). b ∷ xs) (take_behind x y n))

-- the first of both are the first part and then the first of the second
pub second_sent : (a b c : Option (List ℕ)) (x y : List ℕ) (n : ℕ) → Appends a b x → n < length y → Appends b c (take n y) → (length x + n < length (x ++ y)) × Appends a c (take (length x + n) (x ++ y))
second_sent a b c x y n h l k = (let e = length-append x y in omega arith, subst (Appends a c) (sym (take_behind x y n)) (Appends-trans a b c x (take n y) h k))
