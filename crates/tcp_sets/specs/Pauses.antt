-- What contracts see of a link, and what a pause of it comes to.
use Rattle.std.specs.Prelude.{◌≡◌, ℕ, Bool, true, false, Ok, Err}
use Rattle.std.specs.declared.result.Result.{Result}
use Rattle.base.specs.Causes.{risen}

-- how often a put failed, how often a pause was turned away, and whether it has a place among those that wait
pub record LinkState : Type 0 where
  pub faults : ℕ
  pub turned_away : ℕ
  pub waits : Bool

-- the same with a place
abbrev pub with_place : LinkState → LinkState
with_place old = record { faults = old.faults; turned_away = old.turned_away; waits = true }

-- the same without one
abbrev pub without_place : LinkState → LinkState
without_place old = record { faults = old.faults; turned_away = old.turned_away; waits = false }

-- the same, turned away once more
abbrev pub turned_away_again : LinkState → LinkState
turned_away_again old = record { faults = old.faults; turned_away = risen old.turned_away 1; waits = old.waits }

-- It has a place then, or it is turned away, which is counted: only one that has none is.
abbrev pub PausesAs : {T E : Type 0} → LinkState → LinkState → Result T E → Type 0
PausesAs old new (Ok _) = new ≡ with_place old
PausesAs old new (Err _) = (old.waits ≡ false) × (new ≡ turned_away_again old)
