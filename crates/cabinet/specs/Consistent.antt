-- How the parts of a cabinet are tied to its history.
use Rattle.std.specs.Prelude.{ℕ, ◌≡◌, ◌≤◌, List, Some, length}
use Rattle.std.specs.Option.{option_map}
use Rattle.base.specs.Readings.{Readings}
use Rattle.metatile_locks.specs.declared.render.Render.{Render}
use Rattle.metatile_plan.specs.declared.metatile.MetaKey.{MetaKey}
use Rattle.truncation_list.specs.declared.book.Book.{Book}
use Rattle.cabinet.specs.Counted.{clock, use_of}
use Rattle.cabinet.specs.History.{CabinetOpening, CabinetStanding, History, kept_of, whole}
use Rattle.cabinet.specs.Shelved.{Shelved, listed, use_on}
use Rattle.cabinet.specs.State.{IsKnown, State, now}

-- the opening, the shelf, the number that was given last, the moment of the last ask or force, what the clock has given, the renders
-- that run, and the book
pub record Parts : Type 0 where
  pub opening : CabinetOpening
  pub shelf : Shelved
  pub last : ℕ
  pub moment : ℕ
  pub clock : Readings
  pub renders : List Render
  pub book : Book

-- the cabinet of these parts and these entries since its opening
abbrev pub seen : Parts → History → State
seen p later = record { catalogue = p.shelf.catalogue; opening = p.opening; history = whole p.opening later; since = later; blobs = Some p.shelf.blobs; clock = p.clock }

-- what stands, of the parts
abbrev pub stood : Parts → CabinetStanding
stood p = record { front = p.last; moment = p.moment; kept = listed p.shelf.blobs; out = p.renders; book = p.book }

-- the cabinet is known, its parts are what its history says, and the shelf has room for each running render to be kept
pub record IsConsistent (p : Parts) (later : History) : Type 0 where
  pub known : IsKnown (seen p later)
  pub stands : now (seen p later) ≡ stood p
  pub clock_is : p.shelf.clock ≡ clock (whole p.opening later)
  pub uses : (m : MetaKey) → use_on p.shelf m ≡ option_map (λ t. use_of (whole p.opening later) m) (kept_of m (stood p))
  pub room : length p.renders ≤ p.shelf.room
