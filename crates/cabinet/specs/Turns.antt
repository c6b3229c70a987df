-- What an ask comes to where nothing that is kept answers it, and what a force comes to.
use Rattle.std.specs.Prelude.{ℕ, ◌≡◌, ◌<◌, ◌≤◌, ◌+◌, List, [], ◌∷◌, ◌++◌, length, Option, Some, None, ⊤}
use Rattle.matrix_geometry.specs.declared.address.Address.{Address}
use Rattle.metatile_locks.specs.declared.render.Render.{Render}
use Rattle.metatile_locks.specs.Running.{IsAboveAll, Locked, begun, running_for}
use Rattle.metatile_plan.specs.declared.metatile.MetaKey.{MetaKey}
use Rattle.cabinet.specs.declared.entry.HistoryEntry.TheVariants as entry
use Rattle.cabinet.specs.declared.kept.KeptBlob.{KeptBlob}
use Rattle.cabinet.specs.declared.replies.Forced.{Forced}
use Rattle.cabinet.specs.declared.replies.Forced.TheVariants as forced
use Rattle.cabinet.specs.declared.shelving.FoundTile.{FoundTile}
use Rattle.cabinet.specs.declared.turns.Turn.{Turn}
use Rattle.cabinet.specs.declared.turns.Turn.TheVariants as turn
use Rattle.cabinet.specs.History.{History}
use Rattle.cabinet.specs.Shelved.{Reads, Shelved}
use Rattle.cabinet.specs.State.{State}

-- what was read of the tile in a cabinet whose blobs are modelled, or that nothing is kept of its metatile
abbrev pub FindsIn : State → Address → Option FoundTile → Type 0
FindsIn s a found = (blobs : List KeptBlob) × (s.blobs ≡ Some blobs) × Reads s.catalogue blobs a found

-- a render of the metatile runs that is not overtaken, or no number is left, or one is given, with room for one more render that is
-- kept with all that run
abbrev pub IsTurn : MetaKey → Option ℕ → Locked → Shelved → Turn → Type 0
IsTurn m next locks shelf (turn.Busy k) = running_for m locks.renders ≡ Some k
IsTurn m next locks shelf turn.Spent = (running_for m locks.renders ≡ None) × (next ≡ None)
IsTurn m next locks shelf (turn.Given k) = (running_for m locks.renders ≡ None) × (next ≡ Some k) × (0 < locks.spare) × (length locks.renders + 1 ≤ shelf.room)

-- a number that is given is above those of all that run, none runs for the metatile, and there is room
abbrev pub IsReady : MetaKey → Locked → Turn → Type 0
IsReady m locks (turn.Busy k) = ⊤
IsReady m locks turn.Spent = ⊤
IsReady m locks (turn.Given k) = (running_for m locks.renders ≡ None) × IsAboveAll k locks.renders × (0 < locks.spare)

-- the renders that run, the number that was given last, and the entries since the opening
pub record Progress : Type 0 where
  pub renders : List Render
  pub last : ℕ
  pub past : History

-- a turn is taken at this moment
abbrev pub IsTaken : MetaKey → ℕ → Progress → Turn → Forced → Progress → Type 0
IsTaken m n old (turn.Busy k) reply new = (reply ≡ forced.Busy k) × (new ≡ old)
IsTaken m n old turn.Spent reply new = (reply ≡ forced.Spent) × (new ≡ old)
IsTaken m n old (turn.Given k) reply new =
    (reply ≡ forced.Ticket (record { number = k; meta = m })) × (new ≡ record { renders = begun k m n old.renders; last = k; past = old.past ++ entry.Started k m ∷ [] })
