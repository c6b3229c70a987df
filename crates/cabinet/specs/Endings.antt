-- Completeness of the end of a render: it is kept, unless a test of another reply is met, or the disk failed.
use Rattle.std.specs.Prelude.{ℕ, ◌≡◌, ◌≤◌, ◌⊎◌, List, length, Some, None}
use Rattle.base.specs.Causes.{Rose}
use Rattle.metatile_locks.specs.Running.{render_of}
use Rattle.metatile_locks.specs.Tickets.{Ticketed}
use Rattle.cabinet.specs.declared.replies.Finished.{Finished}
use Rattle.cabinet.specs.declared.replies.Finished.TheVariants as finished
use Rattle.cabinet.specs.Commands.{Runs, others, place_for}
use Rattle.cabinet.specs.State.{State, now}

-- the ticket's render doesn't run
abbrev pub IsStranger : State → Ticketed → Type 0
IsStranger s t = render_of t (now s).out ≡ None

-- it runs, and a truncation overtook it
abbrev pub IsOvertaken : State → Ticketed → Type 0
IsOvertaken s t = (n : ℕ) × (cut : ℕ) × Runs s t n (Some cut)

-- as many other metatiles are kept as may be
abbrev pub IsFull : State → Ticketed → Type 0
IsFull s t = s.catalogue.kept_limit ≤ others s t.meta

-- no gap has room for the blob
abbrev pub HasNoRoom : State → List ℕ → Type 0
HasNoRoom s blob = place_for s (length blob) ≡ None

-- the end of a render, in which the disk's count of faults came from one number to another, is Kept, or one of these is met, or the count rose
abbrev pub IsKeptUnlessFailed : ℕ → ℕ → State → Ticketed → List ℕ → Finished → Type 0
IsKeptUnlessFailed before after s t blob r = (r ≡ finished.Kept) ⊎ IsStranger s t ⊎ IsOvertaken s t ⊎ IsFull s t ⊎ HasNoRoom s blob ⊎ Rose before after
