-- The words that ask for a composition.
use Rattle.std.specs.Prelude.{ℕ, Bool, false, List, [], ◌∷◌, codes, bytes_eq}

-- `compose` alone
abbrev pub is_compose : List (List ℕ) → Bool
is_compose (word ∷ []) = bytes_eq word (codes "compose")
is_compose words = false
