-- What a call comes to that takes bytes of a source, and puts them after those that are held.
use Rattle.std.specs.Prelude.{◌≡◌, ℕ, ◌+◌, ◌<◌, ◌≤◌, ◌⊎◌, max, List, length, Option, Bool, true, false, Result, Ok, Err, IfErr, OnOk}
use Rattle.std.specs.Io.KnownBytes.{prepend_known, Keeps, IsAtEnd}
use Rattle.httparse.specs.Grammar.{HasNoRequest}
use Rattle.httparse.specs.declared.spans.HeaderSpan.{HeaderSpan}
use Rattle.http_wire.specs.Answers.{LeavesFault}
use Rattle.http_wire.specs.Lines.{Extends}
use Rattle.http_wire.specs.Looks.{HadNoHead, SettlesStream}
use Rattle.http_wire.specs.ReadCause.{HasReadCause}
use Rattle.http_wire.specs.Side.{Side}
use Rattle.http_wire.specs.declared.look.LookOutcome.{LookOutcome}
use Rattle.http_wire.specs.declared.message.WireFault.{WireFault}

-- No byte is lost, but where memory ran out; a read fault has its cause in the source; the other side of a link stays.
pub record Takes {T : Type 0} (held new : List ℕ) (left after : Option (List ℕ)) (faults now : ℕ) (beside still : Side) (result : Result T WireFault) : Type 0 where
  pub stream : OnOk result (Keeps (prepend_known held left) (prepend_known new after))
  pub leaves : IfErr result (LeavesFault (prepend_known held left) new after)
  pub cause : HasReadCause faults now result
  pub apart : still ≡ beside

-- one take brings 1 to 4,096 bytes, or none at the end
abbrev pub BringsPiece : List ℕ → List ℕ → Option (List ℕ) → Result Bool WireFault → Type 0
BringsPiece held new after (Ok true) = (length held < length new) × (length new ≤ length held + 4096) × Extends held new
BringsPiece held new after (Ok false) = IsAtEnd after × (new ≡ held)
BringsPiece held new after (Err fault) = new ≡ held

-- takes up to a place where a head may end bring bytes, or none at the end; a head that they bring ends in the last of them
abbrev pub BringsLine : List ℕ → List ℕ → Option (List ℕ) → Result Bool WireFault → Type 0
BringsLine held new after (Ok true) = (length held < length new) × (HasNoRequest held → HadNoHead new)
BringsLine held new after (Ok false) = IsAtEnd after × (new ≡ held)
BringsLine held new after (Err fault) = HasNoRequest held → HasNoRequest new

-- what is found is settled for the stream, and found with the last bytes that were taken; up to a fault no head came
abbrev pub Finds : List ℕ → Option (List ℕ) → List HeaderSpan → Result LookOutcome WireFault → Type 0
Finds new after headers (Ok found) = SettlesStream new headers (prepend_known new after) found × HadNoHead new
Finds new after headers (Err fault) = HasNoRequest new

-- the same, where the head may have been held before
abbrev pub FindsHead : List ℕ → List ℕ → Option (List ℕ) → List HeaderSpan → Result LookOutcome WireFault → Type 0
FindsHead held new after headers (Ok found) = SettlesStream new headers (prepend_known new after) found × ((new ≡ held) ⊎ HadNoHead new)
FindsHead held new after headers (Err fault) = HasNoRequest new

-- bytes are taken after those that are held, at most the take that brings the last that are needed
pub record Gains (need : ℕ) (held new : List ℕ) : Type 0 where
  pub extends : Extends held new
  pub few : length new ≤ max (length held) (need + 4095)

-- takes until so many bytes are held bring them, unless the source ends or fails before
abbrev pub BringsUpTo : ℕ → List ℕ → Option (List ℕ) → Result Bool WireFault → Type 0
BringsUpTo need new after (Ok true) = need ≤ length new
BringsUpTo need new after (Ok false) = IsAtEnd after × (length new < need)
BringsUpTo need new after (Err fault) = length new < need
