-- Parts of a space, and lists of parts in order of place.
use Rattle.std.specs.Prelude.{ℕ, ◌+◌, ◌≤◌, ◌⊎◌, List, [], ◌∷◌, if◌then◌else◌, nat_lt}
use Rattle.extent_map.specs.declared.part.Extent.{Extent}

-- the part of so many bytes from a place on
abbrev pub part_at : ℕ → ℕ → Extent
part_at place bytes = record { place = place; length = bytes }

-- the place after its last byte
abbrev pub end_of : Extent → ℕ
end_of p = p.place + p.length

-- no byte lies in both
abbrev pub AreApart : Extent → Extent → Type 0
AreApart p q = (end_of p ≤ q.place) ⊎ (end_of q ≤ p.place)

-- the parts lie one after the other between two places, and each has at least one byte
abbrev pub LieInOrder : ℕ → List Extent → ℕ → Type 0
LieInOrder low [] high = low ≤ high
LieInOrder low (p ∷ ps) high = (low ≤ p.place) × (1 ≤ p.length) × LieInOrder (end_of p) ps high

-- the parts with one more, before the first that starts after it
abbrev pub inserted : Extent → List Extent → List Extent
inserted p [] = p ∷ []
inserted p (q ∷ qs) = if nat_lt p.place q.place then p ∷ q ∷ qs else q ∷ inserted p qs
