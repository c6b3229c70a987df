-- What upkeep does: it saves the uses of one metatile after the other, or drops one after the other, one turn each, until nothing is left
-- to do, the disk fails, or as many turns were made as may be.
use Rattle.std.specs.Prelude.{ℕ, ◌≡◌, ◌≤◌, ◌+◌, List, [], ◌∷◌, ◌++◌, length}
use Rattle.std.specs.List.{AllByRecursion}
use Rattle.cabinet.specs.declared.replies.Expired.TheVariants as expired
use Rattle.cabinet.specs.declared.replies.Saved.TheVariants as saved
use Rattle.cabinet_chest.specs.declared.command.Command.{Command}
use Rattle.cabinet_chest.specs.declared.command.Command.TheVariants as command
use Rattle.cabinet_chest.specs.declared.command.Reply.{Reply}
use Rattle.cabinet_chest.specs.declared.command.Reply.TheVariants as reply
use Rattle.cabinet_chest.specs.declared.shown.Note.{Note}
use Rattle.metatile_plan.specs.declared.metatile.MetaKey.{MetaKey}
use Rattle.turnstile.specs.declared.view.Made.{Made}
use Rattle.cache_access.specs.declared.upkept.Upkept.{Upkept}
use Rattle.cache_access.specs.declared.upkept.Upkept.TheVariants.{Done, DiskFault, Stopped}
use Rattle.cache_access.specs.Turned.{IsOf}

-- a kind of upkeep: its command, and the replies to it: that it was done for this metatile, that the disk failed, and that nothing was
-- left to do
pub record Chore : Type 0 where
  pub does : Command
  pub done : MetaKey → Reply
  pub failed : ℕ → ℕ → Reply
  pub nothing : Reply

abbrev pub saving : Chore
saving = record { does = command.SaveUses; done = λ m. reply.Saved (saved.Done m); failed = λ b a. reply.Saved (saved.DiskFault b a); nothing = reply.Saved saved.Within }

abbrev pub dropping : Chore
dropping = record { does = command.Expire; done = λ m. reply.Expired (expired.Dropped m); failed = λ b a. reply.Expired (expired.DiskFault b a); nothing = reply.Expired expired.Within }

-- each turn did it for a metatile
abbrev pub AreDone : Chore → List (Made Note) → Type 0
AreDone chore turns = AllByRecursion (λ m. (k : MetaKey) × IsOf chore.does (chore.done k) m) turns

-- after so many of them the last turn, if there is one, and why there is none after it
abbrev pub UpkeepEndsAs : Chore → ℕ → ℕ → List (Made Note) → Upkept → Type 0
UpkeepEndsAs chore most many ends (Done n) = (n ≡ many) × ((m : Made Note) × (ends ≡ m ∷ []) × IsOf chore.does chore.nothing m)
UpkeepEndsAs chore most many ends (DiskFault n) = (n ≡ many) × ((m : Made Note) × (b : ℕ) × (a : ℕ) × (ends ≡ m ∷ []) × IsOf chore.does (chore.failed b a) m)
UpkeepEndsAs chore most many ends Stopped = (many ≡ most) × (ends ≡ [])

-- THE WHOLE: the turns that upkeep made, of which so many may be made, and what it came to
module _ {C : Type 0} (leads : C → C → List (Made Note) → Type 0) where
  pub record KeepsUp (chore : Chore) (most : ℕ) (before after : C) (result : Upkept) : Type 0 where
    pub turns : List (Made Note)
    pub ends : List (Made Note)
    pub gains : leads before after (turns ++ ends)
    pub done : AreDone chore turns
    pub over : UpkeepEndsAs chore most (length turns) ends result
    pub few : length turns + length ends ≤ most
