-- The numbers of what is kept, each with the place of the record that keeps it.
use Rattle.std.specs.Prelude.{ℕ, ◌≡◌, ◌<◌, ◌==◌, Bool, List, [], ◌∷◌, find, Option, IsSome, IsSomeAnd, unwrap_or, ⊤}
use Rattle.std.specs.List.{AllByRecursion}
use Rattle.std.specs.Map.{lookup}
use Rattle.extent_map.specs.Spaces.{IsSound, Space}
use Rattle.cabinet.specs.declared.kept.Kept.{Kept}
use Rattle.cabinet.specs.Fresh.{ApartBy}
use Rattle.cabinet.specs.Gaps.{regions}

-- the place of a number, none where it has none
abbrev pub place_in : List (ℕ × ℕ) → ℕ → Option ℕ
place_in es number = lookup (λ n. number == n) es

abbrev pub has_number : ℕ → Kept → Bool
has_number number t = t.number == number

-- what f says of them rises
abbrev pub RisesBy : {X : Type 0} → (X → ℕ) → List X → Type 0
RisesBy f [] = ⊤
RisesBy f (x ∷ xs) = AllByRecursion (λ y. f x < f y) xs × RisesBy f xs

-- the place of a kept metatile's number, 0 where it has none
abbrev pub place_at : (ℕ → Option ℕ) → Kept → ℕ
place_at places t = unwrap_or (places t.number) 0

-- each kept number has a place below `next`, the places rise in the order in which they are kept, and no other number has one
pub record ArePlaced (places : ℕ → Option ℕ) (next : ℕ) (kept : List Kept) : Type 0 where
  pub each : AllByRecursion (λ t. IsSomeAnd (places t.number) (λ place. place < next)) kept
  pub rising : RisesBy (place_at places) kept
  pub only : (number : ℕ) → IsSome (places number) → IsSome (find (has_number number) kept)

-- what is kept in a replay, the taken parts and the places of numbers are tied together: each metatile is kept once, the parts are the
-- regions of what is kept, and its numbers are placed
pub record AreTied (next : ℕ) (kept : List Kept) (space : Space) (places : ℕ → Option ℕ) : Type 0 where
  pub once : ApartBy (λ t. t.meta) kept
  pub parts : space.parts ≡ regions kept
  pub order : IsSound space
  pub placed : ArePlaced places next kept
