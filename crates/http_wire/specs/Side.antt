-- one side of a link
use Rattle.std.specs.Prelude.{ℕ, List, Option, None}

-- the bytes left or taken there, where they are modelled, and the count of its faults
pub record Side : Type 0 where
  pub bytes : Option (List ℕ)
  pub faults : ℕ

abbrev pub side : Option (List ℕ) → ℕ → Side
side bytes faults = record { bytes = bytes; faults = faults }

-- what is no link has no other side
abbrev pub no_side : Side
no_side = side None 0
