-- The calls of a lock table, a line for each reply.
use Rattle.std.specs.Prelude.{◌≡◌, ◌+◌, ℕ, List, Option, Some, None}
use Rattle.metatile_plan.specs.declared.metatile.MetaKey.{MetaKey}
use Rattle.metatile_locks.specs.declared.render.Render.{Render}
use Rattle.metatile_locks.specs.declared.replies.Begin.{Begin}
use Rattle.metatile_locks.specs.declared.replies.Begin.TheVariants as begins
use Rattle.metatile_locks.specs.declared.replies.End.{End}
use Rattle.metatile_locks.specs.declared.replies.End.TheVariants as ends
use Rattle.metatile_locks.specs.Running.{running_for, render_of, begun, without}
use Rattle.metatile_locks.specs.Tickets.{Ticketed}

abbrev pub Begins : List Render → MetaKey → ℕ → ℕ → Begin → List Render → Type 0
Begins rs m k n (begins.Busy j) new = (running_for m rs ≡ Some j) × (new ≡ rs)
Begins rs m k n (begins.Ticket t) new = (running_for m rs ≡ None) × (t ≡ record { number = k; meta = m }) × (new ≡ begun k m n rs)

-- a ticket takes up the room of one render
abbrev pub TakesRoom : Begin → ℕ → ℕ → Type 0
TakesRoom (begins.Busy j) old new = new ≡ old
TakesRoom (begins.Ticket t) old new = new + 1 ≡ old

-- the render of the ticket stands, begun at this moment and with this mark
abbrev pub Stands : List Render → Ticketed → ℕ → Option ℕ → Type 0
Stands rs t n mark = render_of t rs ≡ Some (record { number = t.number; meta = t.meta; moment = n; mark = mark })

abbrev pub Ends : List Render → Ticketed → End → List Render → Type 0
Ends rs t ends.Stranger new = (render_of t rs ≡ None) × (new ≡ rs)
Ends rs t (ends.Overtaken cut) new = (n : ℕ) × Stands rs t n (Some cut) × (new ≡ without t.number rs)
Ends rs t (ends.Whole n) new = Stands rs t n None × (new ≡ without t.number rs)
