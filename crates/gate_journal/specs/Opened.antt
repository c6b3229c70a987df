-- What an image of a disk opens to.
use Rattle.std.specs.Prelude.{ℕ, zero, suc, ◌+◌, ◌%◌, ◌^◌, List, [], ◌∷◌, replicate, Bool, true, false, ◌&&◌, ◌||◌, ◌==◌, nat_eq, if◌then◌else◌, Option, Some, None}
use Rattle.std.specs.Cmp.Lexicographic.{pointwise}
use Rattle.std.specs.Int.{w64, from_be_bytes}
use Rattle.disk_model.specs.Content.{Content, byte_at, bytes_at}
use Rattle.gate_journal.specs.declared.half.Half.{Half}
use Rattle.gate_journal.specs.declared.half.Half.TheVariants.{First, Second}
use Rattle.gate_journal.specs.Layout.{header_at, half_at}

-- "WMTSJNL1" for version 1 and "WMTSJNL2" for version 2
abbrev pub magic : ℕ → List ℕ
magic version = 87 ∷ 77 ∷ 84 ∷ 83 ∷ 74 ∷ 78 ∷ 76 ∷ (48 + version) ∷ []

-- these bytes are the magic of a version
abbrev pub names : List ℕ → ℕ → Bool
names bytes version = pointwise nat_eq bytes (magic version)

-- a header counts: its gate is open, and its body begins with the magic of a version and ends in zeros
unfoldable pub counts : Content → ℕ → Bool
counts c at = (byte_at c (at + 63) == 1) && (names (bytes_at c at 8) 1 || names (bytes_at c at 8) 2) && pointwise nat_eq (bytes_at c (at + 48) 15) (replicate 15 0)

-- the version of a header that counts
unfoldable pub version_at : Content → ℕ → ℕ
version_at c at = if names (bytes_at c at 8) 1 then 1 else 2

-- the generation in a header
unfoldable pub generation_at : Content → ℕ → ℕ
generation_at c at = from_be_bytes w64 (bytes_at c (at + 8) 8)

-- the digest in a header
abbrev pub digest_at : Content → ℕ → List ℕ
digest_at c at = bytes_at c (at + 16) 32

-- The half in force, by which headers count, and whether the second one's generation is the next after the first one's.
abbrev pub half_of : Bool → Bool → Bool → Option Half
half_of true true true = Some Second
half_of true true false = Some First
half_of true false next = Some First
half_of false true next = Some Second
half_of false false next = None

unfoldable pub half_in_force : Content → Option Half
half_in_force c = half_of (counts c 0) (counts c 64) (generation_at c 64 == (generation_at c 0 + 1) % 2 ^ 64)

-- the bodies of n slots from a place on
abbrev pub bodies_at : Content → ℕ → ℕ → List (List ℕ)
bodies_at c at zero = []
bodies_at c at (suc n) = bytes_at c at 63 ∷ bodies_at c (at + 64) n

-- the bodies of n slots from a place on, up to the first closed gate
abbrev pub records_at : Content → ℕ → ℕ → List (List ℕ)
records_at c at zero = []
records_at c at (suc n) = if byte_at c (at + 63) == 1 then bytes_at c at 63 ∷ records_at c (at + 64) n else []

-- all gates of n slots from a place on are closed
abbrev pub all_closed : Content → ℕ → ℕ → Bool
all_closed c at zero = true
all_closed c at (suc n) = if byte_at c (at + 63) == 1 then false else all_closed c (at + 64) n

-- no open gate of n slots from a place on stands after a closed one
abbrev pub in_order : Content → ℕ → ℕ → Bool
in_order c at zero = true
in_order c at (suc n) = if byte_at c (at + 63) == 1 then in_order c (at + 64) n else all_closed c (at + 64) n

-- no cache, one with another digest, or the version and the bodies of its records
pub data Opening : Type 0 where
  no_cache : Opening
  differs : List ℕ → Opening
  records : ℕ → List (List ℕ) → Opening

-- by the half in force
abbrev pub opened_half : List ℕ → ℕ → Content → Option Half → Opening
opened_half digest slots c None = no_cache
opened_half digest slots c (Some half) =
    if pointwise nat_eq (digest_at c (header_at half)) digest
    then (if in_order c (half_at slots half) slots then records (version_at c (header_at half)) (records_at c (half_at slots half) slots) else no_cache)
    else differs (digest_at c (header_at half))

-- what a content opens to, under the asked digest and with halves of so many slots
unfoldable pub opened : List ℕ → ℕ → Content → Opening
opened digest slots c = opened_half digest slots c (half_in_force c)
