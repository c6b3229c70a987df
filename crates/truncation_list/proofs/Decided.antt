-- tests and what they decide
use Rattle.std.proofs.Common.{ℕ, ◌≡◌, ◌≤◌, ◌&&◌, ◌==◌, Bool, true, false, refl, ◌∙◌, arith, eq-eqb, ℤ, ◌≤ℤ◌, IsTrue}
use Rattle.std.specs.Prelude.{nat_le, int_le}
use Rattle.std.proofs.lemmas.Bool.Decides.{nat_tests}
use Rattle.std.proofs.lemmas.Int.{ints}

pub both : (s t : Bool) → IsTrue (s && t) → IsTrue s × IsTrue t
both true t h = (refl, h)
both false t h = absurd (cc)

pub join : (s t : Bool) → IsTrue s → IsTrue t → IsTrue (s && t)
join true t h k = k
join false t h k = absurd (cc)

pub true_and : (s t : Bool) → IsTrue s → t ≡ (s && t)
true_and true t h = refl
true_and false t h = absurd (cc)

pub four : (s t u v : Bool) → IsTrue (s && t && u && v) → IsTrue s × IsTrue t × IsTrue u × IsTrue v
four s t u v h =
    let c = both (s && t && u) v h in
    let b = both (s && t) u c.0 in
    let a = both s t b.0 in
    (a.0, a.1, b.1, c.1)

pub join_four : (s t u v : Bool) → IsTrue s → IsTrue t → IsTrue u → IsTrue v → IsTrue (s && t && u && v)
join_four s t u v a b c d = join (s && t && u) v (join (s && t) u (join s t a b) c) d

pub five : (s t u v w : Bool) → IsTrue (s && t && u && v && w) → IsTrue s × IsTrue t × IsTrue u × IsTrue v × IsTrue w
five s t u v w h =
    let d = both (s && t && u && v) w h in
    let c = four s t u v d.0 in
    (c.0, c.1, c.2, c.3, d.1)

pub join_five : (s t u v w : Bool) → IsTrue s → IsTrue t → IsTrue u → IsTrue v → IsTrue w → IsTrue (s && t && u && v && w)
join_five s t u v w a b c d e = join (s && t && u && v) w (join_four s t u v a b c d) e

pub le_is : (x y : ℕ) → IsTrue (nat_le x y) → x ≤ y
le_is x y h = grind (arith, nat_tests)

pub is_le : (x y : ℕ) → x ≤ y → IsTrue (nat_le x y)
is_le x y h = grind (arith, nat_tests)

pub eq_is : (x y : ℕ) → IsTrue (x == y) → x ≡ y
eq_is x y h = grind (arith, nat_tests)

pub is_eq : (x y : ℕ) → x ≡ y → IsTrue (x == y)
is_eq x y h = eq-eqb x y h

pub int_le_is : (x y : ℤ) → IsTrue (int_le x y) → x ≤ℤ y
int_le_is x y h = grind (arith, ints)

pub is_int_le : (x y : ℤ) → x ≤ℤ y → IsTrue (int_le x y)
is_int_le x y h = grind (arith, ints)

pub le_through : (x y z : ℕ) → IsTrue (nat_le x y) → IsTrue (nat_le y z) → IsTrue (nat_le x z)
le_through x y z h k = let a = le_is x y h in let b = le_is y z k in is_le x z (omega arith)

pub int_le_through : (x y z : ℤ) → IsTrue (int_le x y) → IsTrue (int_le y z) → IsTrue (int_le x z)
int_le_through x y z h k = let a = int_le_is x y h in let b = int_le_is y z k in is_int_le x z (omega (arith, ints))

pub eq_through : (x y z : ℕ) → IsTrue (x == y) → IsTrue (y == z) → IsTrue (x == z)
eq_through x y z h k = is_eq x z (eq_is x y h ∙ eq_is y z k)
