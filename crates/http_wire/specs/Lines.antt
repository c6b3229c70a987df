-- Where a head can't end: bytes in which no line ends, and empty lines alone.
use Rattle.std.specs.Prelude.{◌≡◌, ◌≢◌, ◌==◌, ◌||◌, ℕ, ◌<◌, ◌≤◌, List, ◌++◌, Bool, true, slice_index}

-- the byte is a CR or a LF
abbrev pub is_line_byte : ℕ → Bool
is_line_byte byte = byte == 13 || byte == 10

-- the first n bytes are those of line ends
abbrev pub IsBlankUpTo : ℕ → List ℕ → Type 0
IsBlankUpTo n bytes = (k : ℕ) → k < n → is_line_byte (slice_index bytes k) ≡ true

-- no line ends from one place up to another
abbrev pub HasNoLineEnd : ℕ → ℕ → List ℕ → Type 0
HasNoLineEnd from to bytes = (k : ℕ) → from ≤ k → k < to → slice_index bytes k ≢ 10

-- the new bytes are the old ones and more after them
abbrev pub Extends : List ℕ → List ℕ → Type 0
Extends old new = (more : List ℕ) × (new ≡ old ++ more)
