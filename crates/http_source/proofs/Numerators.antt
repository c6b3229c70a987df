-- The edges of pixels over one denominator.
use Rattle.std.specs.Prelude.{Vec, IfOk, Result, Ok, Err}
use Rattle.std.specs.declared.alloc.Global.{Global}
use Rattle.std.specs.declared.alloc.AllocError.{AllocError}
use Rattle.std.proofs.Common.{◌≡◌, ℕ, ◌*◌, ◌^◌, ◌≤◌, refl, ap, subst, arith, ℤ, pos, negsuc, neg_ℤ, ◌+ℤ◌, ◌-ℤ◌, ◌*ℤ◌, ◌<ℤ◌, unsigned_abs}
use Rattle.std.proofs.Math.Nat.{mul-le-mul, mul-le-mul_right}
use Rattle.std.proofs.lemmas.Int.{ints, unsigned_abs-mul}
use Rattle.exact_ratio.specs.Values.{Fraction}
use Rattle.matrix_geometry.proofs.Products.{abs-add-le, neg-mul}
use Rattle.window_request.specs.Decimals.{IsDecimalOf}

-- how large the numerator is, by the denominator
pub numerator_most : (corner pixels n d : ℤ) → unsigned_abs corner ≤ 10 ^ 17 → unsigned_abs pixels * unsigned_abs n ≤ 10 ^ 9 * unsigned_abs d → unsigned_abs ((corner *ℤ d) +ℤ ((pixels *ℤ n) *ℤ pos (10 ^ 9))) ≤ 2 * 10 ^ 18 * unsigned_abs d
numerator_most corner pixels n d in_corner in_extent =
    let first : unsigned_abs (corner *ℤ d) ≤ 10 ^ 17 * unsigned_abs d = rw (unsigned_abs-mul corner d) (mul-le-mul_right (unsigned_abs d) in_corner) in
    let second : unsigned_abs ((pixels *ℤ n) *ℤ pos (10 ^ 9)) ≤ 10 ^ 18 * unsigned_abs d = rw (unsigned_abs-mul (pixels *ℤ n) (pos (10 ^ 9)), unsigned_abs-mul pixels n) (omega (arith, in_extent)) in
    omega (arith, first, second, abs-add-le (corner *ℤ d) ((pixels *ℤ n) *ℤ pos (10 ^ 9)))

-- THE EDGES

abbrev pub the_fraction : ℤ → ℤ → Fraction
the_fraction n d = record { n = n; d = d }

pub denominator : (d : ℤ) → pos 0 <ℤ d → pos (10 ^ 9 * unsigned_abs d) ≡ pos (10 ^ 9) *ℤ d
denominator (pos b) some = refl
denominator (negsuc b) some = absurd (omega (arith, ints, some))

pub one : (d : ℤ) → pos 0 <ℤ d → d ≡ pos 1 *ℤ d
one (pos b) some = ap pos (omega arith)
one (negsuc b) some = absurd (omega (arith, ints, some))

minus : (y : ℕ) (n : ℤ) → ((pos 0 -ℤ pos y) *ℤ n) *ℤ pos (10 ^ 9) ≡ neg_ℤ ((pos y *ℤ n) *ℤ pos (10 ^ 9))
minus y n =
    let back : pos 0 -ℤ pos y ≡ neg_ℤ (pos y) = omega (arith, ints) in
    rw (back, neg-mul (pos y) n, neg-mul (pos y *ℤ n) (pos (10 ^ 9))) refl

pub top_n : (corner : ℤ) (y : ℕ) (n d : ℤ) → pos 0 <ℤ d → (corner *ℤ d) +ℤ (((pos 0 -ℤ pos y) *ℤ n) *ℤ pos (10 ^ 9)) ≡ (corner *ℤ (pos 1 *ℤ d)) -ℤ ((pos y *ℤ n) *ℤ pos (10 ^ 9))
top_n corner y n d some = λ i. (corner *ℤ one d some i) +ℤ minus y n i

pub few_pixels : (y count side : ℕ) → y ≤ count * side → count ≤ 2 ^ 31 → side ≤ 512 → y ≤ 2 ^ 40
few_pixels y count side within counts sides = let most = mul-le-mul counts sides in omega (arith, within, most)

-- the text of a fraction is that of one with the same parts
pub text_of : (r : Result (Vec ℕ Global) AllocError) (n d : ℤ) (f : Fraction) → n ≡ f.n → d ≡ f.d → IfOk r (λ text. IsDecimalOf (the_fraction n d) text.items) → IfOk r (λ text. IsDecimalOf f text.items)
text_of (Ok text) n d f n_is d_is of =
    let same : the_fraction n d ≡ f = λ i. record { n = n_is i; d = d_is i } in
    subst (λ (g : Fraction). IsDecimalOf g text.items) same of
text_of (Err e) n d f n_is d_is of = tt
