-- What a command of a turn comes to.
-- A tie between the code and its definitions: the promise can be read without it.
use Rattle.std.specs.Prelude.{ℕ, ◌≡◌, Bool, true}
use Rattle.cabinet.specs.State.{IsSound, State}
use Rattle.cabinet_chest.specs.declared.command.Command.{Command}
use Rattle.cabinet_chest.specs.declared.command.Reply.{Reply}
use Rattle.cabinet_chest.specs.declared.shown.Shown.{Shown}
use Rattle.cabinet_chest.specs.Admitted.{KeepsSound}
use Rattle.cabinet_chest.specs.Replies.{MayReply}

-- what a cabinet shows
abbrev pub seen : ℕ → State → Shown
seen faults s = record { faults = faults; state = s }

-- the reply is one that the command may have, and a sound cabinet stays so where the command keeps it so
pub record Acts (b a : Shown) (does : Command) (r : Reply) : Type 0 where
  pub may : (told : Bool) → (told ≡ true → IsSound b.state) → MayReply b.state.catalogue told b a does r
  pub sound : KeepsSound b.state.catalogue does → IsSound b.state → IsSound a.state
