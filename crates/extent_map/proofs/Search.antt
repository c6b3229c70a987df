-- The search for the lowest hole, step by step.
use Rattle.std.proofs.Common.{ℕ, ◌≤◌, List, [], ◌∷◌, ◌++◌, inl, inr, arith}
use Rattle.std.specs.List.{AllByRecursion}
use Rattle.extent_map.specs.declared.part.Extent.{Extent}
use Rattle.extent_map.specs.Parts.{end_of, AreApart, LieInOrder}
use Rattle.extent_map.specs.Spaces.{IsFree}
use Rattle.extent_map.specs.Holes.{first_start}
use Rattle.extent_map.proofs.Order.{low_high}

-- APART

all_joined : (P : Extent → Type 0) (xs ys : List Extent) → AllByRecursion P xs → AllByRecursion P ys → AllByRecursion P (xs ++ ys)
all_joined P [] ys h k = k
all_joined P (x ∷ xs) ys h k = (h.0, all_joined P xs ys h.1 k)

apart_behind : (low : ℕ) (xs : List Extent) (mid : ℕ) (p : Extent) → LieInOrder low xs mid → mid ≤ p.place → AllByRecursion (λ q. AreApart q p) xs
apart_behind low [] mid p h k = tt
apart_behind low (x ∷ xs) mid p h k = (inl (let m = low_high (end_of x) xs mid h.2 in omega arith), apart_behind (end_of x) xs mid p h.2 k)

apart_ahead : (low : ℕ) (ys : List Extent) (high : ℕ) (p : Extent) → LieInOrder low ys high → end_of p ≤ low → AllByRecursion (λ q. AreApart q p) ys
apart_ahead low [] high p h k = tt
apart_ahead low (y ∷ ys) high p h k = let m = h.0 in (inr (omega arith), apart_ahead (end_of y) ys high p h.2 (omega arith))

-- HOLES

pub fits_free : (before behind : List Extent) (size : ℕ) (p : Extent) → LieInOrder 0 before p.place → LieInOrder (end_of p) behind size → IsFree (before ++ behind) size p
fits_free before behind size p low high = (
  low_high (end_of p) behind size high,
  all_joined (λ q. AreApart q p) before behind (apart_behind 0 before p.place p low (omega arith)) (apart_ahead (end_of p) behind size p high (omega arith)),
)

-- before the first of the parts ahead
pub ahead_of : (low : ℕ) (ps : List Extent) (size : ℕ) (p : Extent) → LieInOrder low ps size → end_of p ≤ first_start ps size → LieInOrder (end_of p) ps size
ahead_of low [] size p h k = k
ahead_of low (q ∷ qs) size p h k = (k, h.1, h.2)
