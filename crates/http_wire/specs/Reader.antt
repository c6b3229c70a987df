-- What contracts see of a reader of messages.
use Rattle.std.specs.Prelude.{ℕ, List, Option}
use Rattle.std.specs.Io.KnownBytes.{prepend_known}
use Rattle.http_wire.specs.declared.message.Ended.{Ended}

-- the bytes that were taken and not yet answered, and how the reader has ended, once it has
pub record Reading : Type 0 where
  pub held : List ℕ
  pub ended : Option Ended

-- the bytes from the next message on, where what is left is modelled
abbrev pub stream : Reading → Option (List ℕ) → Option (List ℕ)
stream reading left = prepend_known reading.held left
