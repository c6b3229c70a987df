-- The renders that run, and the marks of those that a truncation overtook.
use Rattle.std.specs.Prelude.{ℕ, ◌≡◌, ◌<◌, ◌≤◌, Bool, true, false, ◌==◌, ◌&&◌, not, is_none, if◌then◌else◌, List, [], ◌∷◌, ◌++◌, map, filter, find, Option, Some, None, IsSome, slice_get, ⊤}
use Rattle.std.specs.List.{AllByRecursion}
use Rattle.std.specs.Option.{option_map, option_map_or}
use Rattle.catalog.specs.declared.grid.Grid.{Grid}
use Rattle.matrix_geometry.specs.declared.matrix.Matrix.{Matrix}
use Rattle.metatile_plan.specs.declared.metatile.Factors.{Factors}
use Rattle.metatile_plan.specs.declared.metatile.MetaKey.{MetaKey}
use Rattle.metatile_plan.specs.Keys.{same_meta}
use Rattle.metatile_plan.specs.Plan.{tiles_of, IsPlan}
use Rattle.truncation_list.specs.declared.block.Block.{Block}
use Rattle.truncation_list.specs.declared.cover.Cover.{Cover}
use Rattle.truncation_list.specs.Covers.{hits}
use Rattle.metatile_locks.specs.declared.render.Render.{Render}
use Rattle.metatile_locks.specs.Tickets.{Ticketed}

-- what a lock table is seen as: its renders, the oldest first, and how many more it has room for
pub record Locked : Type 0 where
  pub renders : List Render
  pub spare : ℕ

-- WHICH RENDER

-- a render that was begun at a moment and is not overtaken
abbrev pub unmarked : ℕ → MetaKey → ℕ → Render
unmarked k m n = record { number = k; meta = m; moment = n; mark = None }

-- the render runs for this metatile and is not overtaken
abbrev pub runs_for : MetaKey → Render → Bool
runs_for m r = same_meta r.meta m && is_none r.mark

-- the number of the render that runs for the metatile and is not overtaken
abbrev pub running_for : MetaKey → List Render → Option ℕ
running_for m rs = option_map (λ r. r.number) (find (runs_for m) rs)

abbrev pub has_number : ℕ → Render → Bool
has_number k r = r.number == k

-- the render is that of the ticket
abbrev pub is_render_of : Ticketed → Render → Bool
is_render_of t r = r.number == t.number && same_meta r.meta t.meta

-- the render of a ticket, none for a stranger's
abbrev pub render_of : Ticketed → List Render → Option Render
render_of t rs = find (is_render_of t) rs

-- WHAT CALLS DO

-- one more is begun at a moment
abbrev pub begun : ℕ → MetaKey → ℕ → List Render → List Render
begun k m n rs = rs ++ unmarked k m n ∷ []

-- the renders but the one with this number
abbrev pub without : ℕ → List Render → List Render
without k rs = filter (λ r. not (has_number k r)) rs

-- the tiles of a metatile, as a block
abbrev pub block : Factors → Matrix → MetaKey → Block
block f x m = record { theme = m.theme; grid = m.grid; z = m.z; tiles = tiles_of f x m }

-- the cover is for some tile of the metatile, with these factors and this grid
abbrev pub hits_in : Factors → Grid → Cover → MetaKey → Bool
hits_in f grid cover m = option_map_or (λ x. hits cover x (block f x m)) (slice_get grid.matrices m.z) false

-- the factors are within the limits on each matrix of the grid
abbrev pub IsPlanOn : Factors → Grid → Type 0
IsPlanOn f grid = AllByRecursion (IsPlan f) grid.matrices

-- the render is marked where the cover hits it
abbrev pub marked : (MetaKey → Bool) → ℕ → Render → Render
marked is_hit t r = if is_hit r.meta then record { number = r.number; meta = r.meta; moment = r.moment; mark = Some t } else r

abbrev pub overtaken : (MetaKey → Bool) → ℕ → List Render → List Render
overtaken is_hit t rs = map (marked is_hit t) rs

-- WHAT THEY KEEP

-- of the renders of one metatile at most one is not overtaken
abbrev pub OneRuns : List Render → Type 0
OneRuns [] = ⊤
OneRuns (r ∷ rs) = AllByRecursion (λ x. same_meta x.meta r.meta ≡ true → r.mark ≡ None → x.mark ≡ None → ⊥) rs × OneRuns rs

-- the numbers rise, so that no two are one
abbrev pub NumbersRise : List Render → Type 0
NumbersRise [] = ⊤
NumbersRise (r ∷ rs) = AllByRecursion (λ x. r.number < x.number) rs × NumbersRise rs

-- the number is above those of all the renders
abbrev pub IsAboveAll : ℕ → List Render → Type 0
IsAboveAll k rs = AllByRecursion (λ r. r.number < k) rs

-- a render has the number, and none a lesser one; there is none where no render runs
abbrev pub IsLeast : Option ℕ → List Render → Type 0
IsLeast None rs = rs ≡ []
IsLeast (Some k) rs = IsSome (find (has_number k) rs) × AllByRecursion (λ r. k ≤ r.number) rs
