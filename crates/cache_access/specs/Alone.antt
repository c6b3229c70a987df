-- The turns of a thread that has a cabinet for itself: each finds the cabinet as the one before left it.
use Rattle.std.specs.Prelude.{ℕ, ◌≡◌, ◌≤◌, Bool, true, List, [], ◌∷◌}
use Rattle.cabinet.specs.State.{IsSound, State, fronted, now}
use Rattle.cabinet_chest.specs.declared.shown.Note.{Note}
use Rattle.cabinet_chest.specs.declared.shown.Shown.{Shown}
use Rattle.cabinet_chest.specs.Replies.{MayReply}
use Rattle.catalog.specs.declared.catalogue.Catalogue.{Catalogue}
use Rattle.metatile_locks.specs.Running.{unmarked}
use Rattle.metatile_locks.specs.Tickets.{Ticketed}
use Rattle.turnstile.specs.declared.view.Made.{Made}
use Rattle.cache_access.specs.Turned.{left_by}

-- no render runs
abbrev pub IsAtRest : State → Type 0
IsAtRest s = (now s).out ≡ []

-- the ticket's render runs, begun at some moment and overtaken by no truncation, and no other one does
abbrev pub IsOnlyRender : State → Ticketed → Type 0
IsOnlyRender s t = (n : ℕ) × ((now s).out ≡ unmarked t.number t.meta n ∷ [])

-- one turn at a cabinet of the catalogue, which finds the state that the turn before left, and a disk that has failed no less often: its
-- command has a reply that it may have, and at a sound cabinet one that it may have there; what is noted of it is the book that it found,
-- and the one that it left
pub record IsStep (c : Catalogue) (before : Shown) (m : Made Note) : Type 0 where
  pub state : m.note.before.state ≡ before.state
  pub later : before.faults ≤ m.note.before.faults
  pub found : m.found ≡ fronted (now m.note.before.state)
  pub left : m.left ≡ left_by m
  pub reply : (told : Bool) → (told ≡ true → IsSound m.note.before.state) → MayReply c told m.note.before m.note.after m.note.command m.note.reply

-- turns one after the other lead a cabinet from what it showed to what it shows; none comes between
abbrev pub AreSteps : Catalogue → Shown → List (Made Note) → Shown → Type 0
AreSteps c before [] after = (after.state ≡ before.state) × (before.faults ≤ after.faults)
AreSteps c before (m ∷ ms) after = IsStep c before m × AreSteps c m.note.after ms after
