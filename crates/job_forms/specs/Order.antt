-- Which of two metatiles comes first: by style, then by values, matrix, row and column.
use Rattle.std.specs.Prelude.{ℕ, ◌≡◌, ◌<◌, ◌⊎◌, List, [], ◌∷◌, ◌++◌}
use Rattle.metatile_plan.specs.declared.metatile.MetaKey.{MetaKey}

-- the first number in which two lists differ is less in this one
abbrev pub IsLess : List ℕ → List ℕ → Type 0
IsLess [] ys = ⊥
IsLess (x ∷ xs) [] = ⊥
IsLess (x ∷ xs) (y ∷ ys) = (x < y) ⊎ ((x ≡ y) × IsLess xs ys)

-- the numbers of a metatile, those first that change last
abbrev pub numbers_of : MetaKey → List ℕ
numbers_of k = k.theme.style ∷ (k.theme.dims ++ (k.z ∷ k.row ∷ k.col ∷ []))

abbrev pub IsBefore : MetaKey → MetaKey → Type 0
IsBefore a b = IsLess (numbers_of a) (numbers_of b)
