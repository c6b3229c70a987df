-- A force of a cabinet on a disk.
use Rattle.std.proofs.Common.{ℕ, ◌≡◌, ◌+◌, ◌≤◌, Bool, Result, Ok, Err, sym, subst, arith, OnErr}
use Rattle.std.specs.Prelude.{IfOk}
use Rattle.disk_model.specs.Images.{DiskState}
use Rattle.gate_journal.specs.declared.journal.Journal.{Journal}
use Rattle.metatile_plan.specs.declared.metatile.MetaKey.{MetaKey}
use Rattle.cabinet.specs.declared.replies.Forced.{Forced}
use Rattle.cabinet.specs.Commands.{Forces}
use Rattle.cabinet.specs.State.{State}
use Rattle.durable_cabinet.specs.Drafts.{needed}
use Rattle.durable_cabinet.specs.Filed.{IsFiled}
use Rattle.durable_cabinet.proofs.Forcing.{filed_alike, forced_alike, forced_needed}

pub forced_filed : {E : Type 0} (told : Bool) (s u : State) (m : MetaKey) (r : Result Forced E) → IfOk r (λ x. Forces s m x u) → OnErr r (u ≡ s) → (start : ℕ) (j : Journal) (disk : DiskState) → IsFiled s told start j disk → IsFiled u told start j disk
forced_filed told s u m (Ok x) forces same start j disk filed = filed_alike told s u start j disk (forced_alike s u u.clock.moment m x forces) filed
forced_filed told s u m (Err fault) forces same start j disk filed = subst (λ (t : State). IsFiled t told start j disk) (sym same) filed

pub forced_room : {E : Type 0} (s u : State) (m : MetaKey) (r : Result Forced E) → IfOk r (λ x. Forces s m x u) → OnErr r (u ≡ s) → (room : ℕ) → needed s + 1 ≤ room → needed u ≤ room
forced_room s u m (Ok x) forces same room enough = omega (arith, enough, forced_needed s u u.clock.moment m x forces)
forced_room s u m (Err fault) forces same room enough = subst (λ (t : State). needed t ≤ room) (sym same) (omega (arith, enough))
