-- The bytes that were read of a connection and aren't answered, and the message at their front.
use Rattle.std.specs.Prelude.{◌≡◌, ℕ, ◌+◌, ◌<◌, ◌≤◌, ◌⊎◌, List, [], ◌++◌, length, take, Option, Some, None}
use Rattle.http_wire.specs.Looks.{HoldsHead, MayHaveHead}
use Rattle.http_wire.specs.Messages.{IsNext, HoldsMessage}
use Rattle.http_wire.specs.declared.message.Message.{Message}
use Rattle.tcp_lanes.specs.Ends.{NeedsBytes}
use Rattle.tcp_lanes.specs.declared.intake.Front.{Front}
use Rattle.tcp_lanes.specs.declared.intake.Front.TheVariants.{Whole, Hopeless}

-- the bytes, how many at their front are at hand, and how many of these were given
pub record Taken : Type 0 where
  pub bytes : List ℕ
  pub at_hand : ℕ
  pub given : ℕ

-- bytes of which none is at hand
abbrev pub waiting : List ℕ → Taken
waiting bytes = record { bytes = bytes; at_hand = 0; given = 0 }

-- the first n bytes are at hand in place of those before
abbrev pub at_hand : ℕ → Taken → Taken
at_hand n old = record { bytes = old.bytes; at_hand = n; given = old.given }

-- so many more were given
abbrev pub given_more : ℕ → Taken → Taken
given_more n old = record { bytes = old.bytes; at_hand = old.at_hand; given = old.given + n }

-- what is known of bytes of which none is at hand: no message stands in those that were searched, and no head where it isn't known
-- how many are needed, before which no message is whole
pub record IsSearched (bytes : List ℕ) (searched needed : ℕ) : Type 0 where
  pub within : searched ≤ length bytes
  pub messageless : HoldsMessage (take searched bytes) → ⊥
  pub headless : needed ≡ 0 → HoldsHead (take searched bytes) → ⊥
  pub none : (more : List ℕ) → length (bytes ++ more) < needed → HoldsMessage (bytes ++ more) → ⊥

-- all of them are searched, and no message is whole
abbrev pub HoldsNone : List ℕ → ℕ → Type 0
HoldsNone bytes needed = IsSearched bytes (length bytes) needed × (HoldsMessage bytes → ⊥)

-- where none is at hand, no message is whole
abbrev pub HasNone : Taken → Type 0
HasNone taken = taken.at_hand ≡ 0 → HoldsMessage taken.bytes → ⊥

-- the message at the front may still become whole
abbrev pub IsHopeful : List ℕ → Type 0
IsHopeful bytes = MayHaveHead bytes ⊎ ((need : ℕ) × NeedsBytes bytes need)

-- Exactly a whole message is at hand, or all bytes where none ever is.
abbrev pub Finds : Taken → Taken → Front → Type 0
Finds old new Whole = (new ≡ at_hand new.at_hand old) × (new.at_hand ≤ length old.bytes) × (message : Message) × IsNext (take new.at_hand old.bytes) message []
Finds old new Hopeless = (new ≡ at_hand (length old.bytes) old) × ((more : List ℕ) → HoldsMessage (old.bytes ++ more) → ⊥)

-- a look finds something unless the bytes are hopeful
abbrev pub LooksAs : Taken → Taken → Option Front → Type 0
LooksAs old new (Some front) = Finds old new front
LooksAs old new None = (new ≡ old) × IsHopeful old.bytes

-- a search finds each whole message
abbrev pub SearchesAs : Taken → Taken → Option Front → Type 0
SearchesAs old new (Some front) = Finds old new front
SearchesAs old new None = (new ≡ old) × HasNone old
