-- What a disk holds: bytes, and an end. Past the end a read gives 0.
use Rattle.std.specs.Prelude.{◌≡◌, ◌⊎◌, ℕ, zero, suc, ◌+◌, ◌-◌, ◌<◌, ◌≤◌, min, max, List, [], ◌∷◌, ◌++◌, length, take, drop, replicate, slice_index}

abbrev pub Content : Type 0
Content = List ℕ

-- the byte that a read gives at a place
abbrev pub byte_at : Content → ℕ → ℕ
byte_at content place = slice_index content place

-- the bytes that a read gives in a range
abbrev pub bytes_at : Content → ℕ → ℕ → List ℕ
bytes_at content at zero = []
bytes_at content at (suc n) = byte_at content at ∷ bytes_at content (at + 1) n

-- cut to a length, or grown to it by zeros
abbrev pub resized : ℕ → Content → Content
resized size old = take size old ++ replicate (size - length old) 0

-- grown by zeros to reach a length, where it doesn't
abbrev pub grown : ℕ → Content → Content
grown size old = old ++ replicate (size - length old) 0

-- with these bytes from a place on in place of what stood there
abbrev pub overlaid : ℕ → List ℕ → Content → Content
overlaid at bytes old = take at old ++ (bytes ++ drop (at + length bytes) old)

-- after a write of these bytes from a place on: the end grows to take them in
abbrev pub written : ℕ → List ℕ → Content → Content
written at [] old = old
written at (byte ∷ bytes) old = overlaid at (byte ∷ bytes) (grown (at + length (byte ∷ bytes)) old)

-- the places outside of a range
abbrev pub IsOutside : ℕ → ℕ → ℕ → Type 0
IsOutside at n place = (place < at) ⊎ (at + n ≤ place)

-- A write of n bytes that isn't on the disk yet, or that failed: the range, and the part past the old end, may hold any
-- bytes. All other bytes stay, and the end lies nowhere but between the old one and that of the write.
pub record TornWrite (at n : ℕ) (old new : Content) : Type 0 where
  pub no_shorter : length old ≤ length new
  pub no_longer : length new ≤ max (length old) (at + n)
  pub others : (place : ℕ) → place < length old → IsOutside at n place → byte_at new place ≡ byte_at old place

-- A cut to a length that isn't on the disk yet, or that failed: past the lesser of the two ends any bytes, and the end
-- anywhere between them.
pub record TornCut (size : ℕ) (old new : Content) : Type 0 where
  pub no_shorter : min size (length old) ≤ length new
  pub no_longer : length new ≤ max size (length old)
  pub others : (place : ℕ) → place < min size (length old) → byte_at new place ≡ byte_at old place

-- as it was
abbrev pub Same : Content → Content → Type 0
Same old new = new ≡ old
