-- What a call comes to that fetches the next message of the bytes that are held and those that a source has left.
use Rattle.std.specs.Prelude.{◌≡◌, ℕ, List, Option, Result, Err}
use Rattle.std.specs.Io.KnownBytes.{prepend_known}
use Rattle.http_wire.specs.Answers.{Answers, IsMessage, IsPartOfTake, Leaves}
use Rattle.http_wire.specs.Messages.{HoldsMessage}
use Rattle.http_wire.specs.ReadCause.{HasReadCause}
use Rattle.http_wire.specs.Side.{Side}
use Rattle.http_wire.specs.declared.message.Next.{Next}
use Rattle.http_wire.specs.declared.message.WireFault.{WireFault}
use Rattle.http_wire.specs.declared.message.WireFault.TheVariants.{ReadFault}

-- The answer is what stands next, and takes no byte out of the stream if it is no message; after a message fewer bytes are
-- held than one take may bring; a read fault has its cause in the source, and no whole message is held then; the other side
-- of a link stays.
pub record Fetches (held new : List ℕ) (left after : Option (List ℕ)) (faults now : ℕ) (beside still : Side) (result : Result Next WireFault) : Type 0 where
  pub answers : Answers (prepend_known held left) (prepend_known new after) result
  pub leaves : Leaves (prepend_known held left) new after result
  pub surplus : IsMessage result → IsPartOfTake held → IsPartOfTake new
  pub waits : result ≡ Err ReadFault → HoldsMessage new → ⊥
  pub cause : HasReadCause faults now result
  pub apart : still ≡ beside
