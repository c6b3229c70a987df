-- How the uses of what is kept are saved at the end of the work.
use Rattle.std.specs.Prelude.{ℕ, ◌≡◌, ◌⊎◌, zero, suc, None}
use Rattle.cabinet.specs.Commands.{Saves}
use Rattle.cabinet.specs.Counted.{unsaved_in}
use Rattle.cabinet.specs.declared.replies.Saved.TheVariants as saved
use Rattle.cabinet.specs.State.{State}
use Rattle.base.specs.Causes.{Rose}
use Rattle.metatile_plan.specs.declared.metatile.MetaKey.{MetaKey}
use Rattle.sessions.specs.Outside.{FaultCounts}

-- from s the uses of so many metatiles were saved, one after the other
abbrev pub SavesMany : ℕ → State → State → Type 0
SavesMany zero s u = u ≡ s
SavesMany (suc n) s u = (t : State) × SavesMany n s t × ((m : MetaKey) × Saves t (saved.Done m) u)

-- the uses of metatiles were saved until all are, or a fault of the disk
pub record SavesAll (faults : FaultCounts) (s u : State) : Type 0 where
  pub count : ℕ
  pub saves : SavesMany count s u
  pub all : unsaved_in u None ⊎ Rose faults.before faults.after
