-- What comes next on the link of a session: a message, or the end of the session where none comes.
use Rattle.std.specs.Prelude.{ℕ, ◌≡◌, List, Option, None}
use Rattle.std.specs.Io.KnownBytes.{Appends, Keeps, prepend_known}
use Rattle.base.specs.Causes.{Rose}
use Rattle.http_wire.specs.Answers.{IsPartOfTake, Remain, StaysAt, TakesMessage}
use Rattle.http_wire.specs.Messages.{HoldsMessage}
use Rattle.http_wire.specs.Reader.{Reading}
use Rattle.http_wire.specs.declared.message.Message.{Message}
use Rattle.http_wire.specs.declared.message.Stop.TheVariants as stop
use Rattle.tile_requests.specs.Sent.{AppendsFront}
use Rattle.sessions.specs.declared.session.SessionEnd.{SessionEnd}
use Rattle.sessions.specs.declared.session.SessionEnd.TheVariants.{Closed, Truncated, Bad, ReadFault, WriteFault, TooMany, OutOfMemory}
use Rattle.sessions.specs.Responses.{bad_text}

-- how a link stands: the faults of its reads and of its writes, the bytes that are left, and those that it has taken, where they
-- are modelled
pub record Wire : Type 0 where
  pub reads : ℕ
  pub writes : ℕ
  pub left : Option (List ℕ)
  pub taken : Option (List ℕ)

-- the message stood at the front of the bytes; of those behind it fewer are held than one take may bring, and the reader goes on
pub record HasCome (before after : Wire) (held : List ℕ) (now : Reading) (m : Message) : Type 0 where
  pub takes : TakesMessage (prepend_known held before.left) m (prepend_known now.held after.left)
  pub surplus : IsPartOfTake now.held
  pub going : now.ended ≡ None
  pub unsent : after.taken ≡ before.taken
  pub writes : after.writes ≡ before.writes

-- No message came, and the session ends so. The response to bytes that are no message went out, or only a front of it.
abbrev pub EndsUnmet : Wire → Wire → List ℕ → List ℕ → SessionEnd → Type 0
EndsUnmet before after held later Closed = StaysAt (prepend_known held before.left) (prepend_known later after.left) stop.End × (after.taken ≡ before.taken)
EndsUnmet before after held later Truncated = StaysAt (prepend_known held before.left) (prepend_known later after.left) stop.Truncated × (after.taken ≡ before.taken)
EndsUnmet before after held later (Bad status) = StaysAt (prepend_known held before.left) (prepend_known later after.left) (stop.Bad status) × Appends before.taken after.taken (bad_text status)
EndsUnmet before after held later ReadFault = Keeps (prepend_known held before.left) (prepend_known later after.left) × ¬ (HoldsMessage later) × Rose before.reads after.reads × (after.taken ≡ before.taken)
EndsUnmet before after held later WriteFault = (status : ℕ) × StaysAt (prepend_known held before.left) (prepend_known later after.left) (stop.Bad status) × AppendsFront before.taken after.taken (bad_text status) × Rose before.writes after.writes
EndsUnmet before after held later TooMany = ⊥
EndsUnmet before after held later OutOfMemory = Remain (prepend_known held before.left) after.left × (after.taken ≡ before.taken)
