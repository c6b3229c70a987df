-- What contracts see of the memory forms, and what a call of theirs does. Calls are counted from 1.
use Rattle.std.specs.Prelude.{◌≡◌, ◌==◌, ◌++◌, ℕ, List, length, drop, Bool, true, false, min, max, Result, Ok, Err}
use Rattle.std.specs.List.{list_any}
use Rattle.base.specs.Causes.{risen}

-- bytes to be read, handed out in pieces
pub record Supply : Type 0 where
  pub left : List ℕ
  pub piece : ℕ
  pub fail : List ℕ
  pub calls : ℕ
  pub faults : ℕ

-- bytes that were taken
pub record Intake : Type 0 where
  pub taken : List ℕ
  pub fail : List ℕ
  pub calls : ℕ
  pub faults : ℕ

-- the call after so many is one of those that fail
abbrev pub is_failing : ℕ → List ℕ → Bool
is_failing calls fail = list_any (λ n. n == risen calls 1) fail

-- how many bytes are handed out into that room: a piece, and a piece of 0 counts as 1
abbrev pub handed : Supply → ℕ → ℕ
handed s room = min (min (max s.piece 1) room) (length s.left)

-- a call that is to fail fails, and any other hands out a piece
abbrev pub Supplies : {E : Type 0} → Supply → Supply → ℕ → Result ℕ E → Type 0
Supplies s t room (Ok n) =
    (is_failing s.calls s.fail ≡ false) × (n ≡ handed s room) × (t ≡ record s { left = drop n s.left; calls = risen s.calls 1 })
Supplies s t room (Err _) =
    (is_failing s.calls s.fail ≡ true) × (t ≡ record s { calls = risen s.calls 1; faults = risen s.faults 1 })

-- a call that is to fail fails, and any other takes all of the bytes, or fails out of memory
abbrev pub TakesIn : {E : Type 0} → Intake → Intake → List ℕ → Result ℕ E → Type 0
TakesIn s t bytes (Ok n) =
    (is_failing s.calls s.fail ≡ false) × (n ≡ length bytes) × (t ≡ record s { taken = s.taken ++ bytes; calls = risen s.calls 1 })
TakesIn s t bytes (Err _) = t ≡ record s { calls = risen s.calls 1; faults = risen s.faults 1 }
