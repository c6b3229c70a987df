-- The order in which a compaction writes what is kept: by last use, and by key, field by field, where that is one.
use Rattle.std.specs.Prelude.{ℕ, ◌≡◌, Bool, true, false, List, [], ◌∷◌, Option, ⊤}
use Rattle.std.specs.Cmp.Lexicographic.{slice_cmp}
use Rattle.std.specs.List.{AllByRecursion}
use Rattle.std.specs.Option.{option_map_or}
use Rattle.std.specs.Ordering.{is_lt, nat_cmp}
use Rattle.expiry_policy.specs.declared.uses.Use.{Use}
use Rattle.expiry_policy.specs.Victims.{fields}
use Rattle.cabinet.specs.declared.kept.Kept.{Kept}
use Rattle.cabinet.specs.declared.ranking.Ranked.{Ranked}
use Rattle.cabinet.specs.Counted.{last_use}
use Rattle.cabinet.specs.Shelved.{Shelved, UsesByKey, use_on}
use Rattle.cabinet.specs.State.{State}

-- the first comes before the second
abbrev pub comes_before : List ℕ → List ℕ → Bool
comes_before a b = is_lt (slice_cmp nat_cmp a b)

-- none of the list comes before one that stands before it
abbrev pub IsInOrderBy : {X : Type 0} → (X → List ℕ) → List X → Type 0
IsInOrderBy rank [] = ⊤
IsInOrderBy rank (x ∷ xs) = AllByRecursion (λ y. comes_before (rank y) (rank x) ≡ false) xs × IsInOrderBy rank xs

-- the numbers that a kept metatile is ranked by: its last use, and the fields of its key
abbrev pub writing_rank : State → Kept → List ℕ
writing_rank s t = last_use s.history t.meta ∷ fields t.meta

-- each has a lesser last use than all that follow it, or the same and a lesser key
abbrev pub IsInWritingOrder : State → List Kept → Type 0
IsInWritingOrder s [] = ⊤
IsInWritingOrder s (t ∷ ts) = AllByRecursion (λ u. comes_before (writing_rank s t) (writing_rank s u) ≡ true) ts × IsInWritingOrder s ts

-- ON A SHELF

-- the count of the last use, 0 where there is none
abbrev pub last_of : Option Use → ℕ
last_of o = option_map_or (λ u. u.last) o 0

abbrev pub ranked_by : UsesByKey → Kept → Ranked
ranked_by uses t = record { last = last_of (uses t.meta); kept = t }

abbrev pub rank_of : Ranked → List ℕ
rank_of x = x.last ∷ fields x.kept.meta

abbrev pub rank_on : Shelved → Kept → List ℕ
rank_on s t = rank_of (ranked_by (use_on s) t)
