-- What a look at the bytes so far says of the stream.
use Rattle.std.specs.Prelude.{ℕ, ◌+◌, ◌<◌, ◌≤◌, List, ◌++◌, length, take, Option, Some, None, IfSome}
use Rattle.httparse.specs.Grammar.{RequestHead, HasNoRequest, NeverHasRequest, MayBecomeRequest}
use Rattle.httparse.specs.Spans.{IsRequestOf, IsRequestWithin, RequestExceeds}
use Rattle.httparse.specs.declared.spans.HeaderSpan.{HeaderSpan}
use Rattle.http_wire.specs.Messages.{front, BeginsWith, IsUnfinished, StopsAs}
use Rattle.http_wire.specs.declared.look.Looked.{Looked}
use Rattle.http_wire.specs.declared.look.Looked.TheVariants.{Whole, Unfinished, Hopeless, TooMany}
use Rattle.http_wire.specs.declared.look.LookOutcome.{LookOutcome}
use Rattle.http_wire.specs.declared.look.LookOutcome.TheVariants.{Head, Stopped}

-- what a look says of the bytes, with room for so many fields
abbrev pub LooksAs : List ℕ → ℕ → List HeaderSpan → Looked → Type 0
LooksAs bytes room headers (Whole spans) = IsRequestOf bytes headers spans × IsRequestWithin bytes headers spans
LooksAs bytes room headers Unfinished = HasNoRequest bytes × MayBecomeRequest bytes
LooksAs bytes room headers Hopeless = NeverHasRequest bytes
LooksAs bytes room headers TooMany = RequestExceeds room bytes

-- a whole head stands at the front
abbrev pub HoldsHead : List ℕ → Type 0
HoldsHead held = (head : RequestHead) × (rest : List ℕ) × BeginsWith held head rest

-- no whole head stood in the bytes before the last of them were taken, 4,096 at most
pub record HadNoHead (held : List ℕ) : Type 0 where
  pub seen : ℕ
  pub last : length held ≤ seen + 4096
  pub none : HasNoRequest (take seen held)

-- a head may still come, and has room
pub record MayHaveHead (held : List ℕ) : Type 0 where
  pub short : length held < 16384
  pub unfinished : IsUnfinished held

-- what the bytes so far settle, whatever follows
abbrev pub Settles : List ℕ → List HeaderSpan → LookOutcome → Type 0
Settles held headers (Head spans) = IsRequestOf (front held) headers spans × IsRequestWithin (front held) headers spans
Settles held headers (Stopped stop) = (more : List ℕ) → StopsAs (held ++ more) stop

abbrev pub Steps : List ℕ → List HeaderSpan → Option LookOutcome → Type 0
Steps held headers None = MayHaveHead held
Steps held headers (Some found) = Settles held headers found

-- what is settled for a stream, where it is modelled
abbrev pub SettlesStream : List ℕ → List HeaderSpan → Option (List ℕ) → LookOutcome → Type 0
SettlesStream held headers stream (Head spans) = IsRequestOf (front held) headers spans × IsRequestWithin (front held) headers spans
SettlesStream held headers stream (Stopped stop) = IfSome stream (λ bytes. StopsAs bytes stop)
