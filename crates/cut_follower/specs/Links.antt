-- A link at a moment, and what one packet off it or onto it does.
use Rattle.std.specs.Prelude.{◌≡◌, ℕ, ◌<◌, ◌≤◌, Bool, true, false, List, [], ◌++◌, length, Option, Result, Ok, Err}
use Rattle.std.specs.Io.KnownBytes.{Appends, Consumes, IsAtEnd}
use Rattle.base.specs.Causes.{Rose}
use Rattle.cut_follower.specs.declared.packets.Missed.{Missed}
use Rattle.cut_follower.specs.declared.packets.Missed.TheVariants as missed

-- the bytes that are left to take and those that were put, where they are modelled, and how often a take and a put have failed
pub record LinkAt : Type 0 where
  pub left : Option (List ℕ)
  pub read_faults : ℕ
  pub taken : Option (List ℕ)
  pub write_faults : ℕ

-- BETWEEN TWO MOMENTS

-- these bytes were taken off the link
abbrev pub HasTaken : LinkAt → LinkAt → List ℕ → Type 0
HasTaken a b bytes = Consumes a.left b.left bytes

-- these bytes went out
abbrev pub HasSent : LinkAt → LinkAt → List ℕ → Type 0
HasSent a b bytes = Appends a.taken b.taken bytes

-- all of the first bytes went out, and of the second ones a front, and not all of them; a write failed
pub record IsCutShort (a b : LinkAt) (first second : List ℕ) : Type 0 where
  pub front : List ℕ
  pub rest : List ℕ
  pub whole : second ≡ front ++ rest
  pub short : 0 < length rest
  pub sent : HasSent a b (first ++ front)
  pub failed : Rose a.write_faults b.write_faults

-- a read failed
abbrev pub HasMissed : LinkAt → LinkAt → Type 0
HasMissed a b = Rose a.read_faults b.read_faults

-- the other side gives nothing more
abbrev pub HasEnded : LinkAt → Type 0
HasEnded b = IsAtEnd b.left

-- fewer bytes than a packet has
abbrev pub IsPart : List ℕ → Type 0
IsPart bytes = length bytes < 64

-- ONE PACKET

-- 64 bytes came; or the stream ended before them or within them, or a read failed
abbrev pub ComesOff : LinkAt → LinkAt → Result (List ℕ) Missed → Type 0
ComesOff a b (Ok bytes) = HasTaken a b bytes × (length bytes ≡ 64)
ComesOff a b (Err missed.AtEnd) = HasTaken a b [] × HasEnded b
ComesOff a b (Err missed.Within) = (part : List ℕ) × HasTaken a b part × (0 < length part) × IsPart part × HasEnded b
ComesOff a b (Err missed.Failed) = (part : List ℕ) × HasTaken a b part × IsPart part × HasMissed a b

-- behind so many bytes of a packet the stream ended
abbrev pub IsMissedAt : ℕ → Missed → Type 0
IsMissedAt at missed.AtEnd = at ≡ 0
IsMissedAt at missed.Within = 0 < at
IsMissedAt at missed.Failed = ⊥

-- nothing was sent meanwhile
pub record TakesOff (a b : LinkAt) (result : Result (List ℕ) Missed) : Type 0 where
  pub comes : ComesOff a b result
  pub same_taken : b.taken ≡ a.taken
  pub same_faults : b.write_faults ≡ a.write_faults
  pub later : a.read_faults ≤ b.read_faults

-- the bytes went out whole, or a front of them, and not all, and a write failed
abbrev pub GoesOnto : LinkAt → LinkAt → List ℕ → Bool → Type 0
GoesOnto a b bytes true = HasSent a b bytes
GoesOnto a b bytes false = IsCutShort a b [] bytes

-- nothing was taken meanwhile
pub record PutsOnto (a b : LinkAt) (bytes : List ℕ) (whole : Bool) : Type 0 where
  pub goes : GoesOnto a b bytes whole
  pub same_left : b.left ≡ a.left
  pub same_faults : b.read_faults ≡ a.read_faults
  pub later : a.write_faults ≤ b.write_faults
