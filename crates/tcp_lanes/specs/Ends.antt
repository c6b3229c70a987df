-- Where the message at the front of the bytes ends that were taken of a connection.
use Rattle.std.specs.Prelude.{◌≡◌, ℕ, ◌<◌, ◌≤◌, List, [], ◌++◌, length, take}
use Rattle.http_wire.specs.Looks.{MayHaveHead}
use Rattle.http_wire.specs.Messages.{IsNext, HoldsMessage}
use Rattle.http_wire.specs.declared.message.Message.{Message}
use Rattle.tcp_lanes.specs.declared.message_ends.MessageEnd.{MessageEnd}
use Rattle.tcp_lanes.specs.declared.message_ends.MessageEnd.TheVariants.{Whole, Headless, Short, Hopeless}

-- no message is whole before so many bytes are there, and with so many one can be
pub record NeedsBytes (held : List ℕ) (need : ℕ) : Type 0 where
  pub short : length held < need
  pub none : (more : List ℕ) → length (held ++ more) < need → HoldsMessage (held ++ more) → ⊥
  pub some : (more : List ℕ) × (length (held ++ more) ≡ need) × HoldsMessage (held ++ more)

-- A whole message is exactly the first n bytes. Where none is, a head may still come, or a head says how many bytes are needed,
-- or none ever is, whatever follows.
abbrev pub MessageEndsAs : List ℕ → MessageEnd → Type 0
MessageEndsAs held (Whole n) = (n ≤ length held) × (message : Message) × IsNext (take n held) message []
MessageEndsAs held Headless = MayHaveHead held
MessageEndsAs held (Short need) = NeedsBytes held need
MessageEndsAs held Hopeless = (more : List ℕ) → HoldsMessage (held ++ more) → ⊥
