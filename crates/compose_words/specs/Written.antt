-- What a composition sees of its output.
use Rattle.std.specs.Prelude.{ℕ, Bool, true, false, List, Option}
use Rattle.std.specs.Io.KnownBytes.{Appends}
use Rattle.base.specs.Causes.{Rose}
use Rattle.tile_requests.specs.Sent.{AppendsFront}
use Rattle.sessions.specs.Outside.{FaultCounts}

-- what was seen of an output: its faults, and the bytes that it has taken, where they are modelled
pub record OutputChange : Type 0 where
  pub writes : FaultCounts
  pub from : Option (List ℕ)
  pub to : Option (List ℕ)

-- the whole text went out
abbrev pub HasWritten : OutputChange → List ℕ → Type 0
HasWritten o text = Appends o.from o.to text

-- a front of the text did, and not all of it, and then a write failed
abbrev pub IsCutShort : OutputChange → List ℕ → Type 0
IsCutShort o text = AppendsFront o.from o.to text × Rose o.writes.before o.writes.after

-- the one or the other
abbrev pub IsSent : OutputChange → List ℕ → Bool → Type 0
IsSent o text true = HasWritten o text
IsSent o text false = IsCutShort o text
