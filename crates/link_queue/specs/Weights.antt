-- Lists that have the same things as often, in whatever order.
use Rattle.std.specs.Prelude.{ℕ, ◌≡◌, ◌+◌, List, [], ◌∷◌}

module _ {A : Type 0} where
  -- the weights of the things, added up
  abbrev pub weigh : (A → ℕ) → List A → ℕ
  weigh weight [] = 0
  weigh weight (x ∷ xs) = weight x + weigh weight xs

  -- the two lists have the same things as often, however these are told apart: they weigh the same by any weights
  abbrev pub WeighAlike : List A → List A → Type 0
  WeighAlike xs ys = (weight : A → ℕ) → weigh weight xs ≡ weigh weight ys
