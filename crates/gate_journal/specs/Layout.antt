-- Where the parts of a journal stand on its disk. A slot has 63 bytes of body and a gate byte; the gate is open where the
-- byte is 1. Two slots are the headers of the two halves, which follow them.
use Rattle.std.specs.Prelude.{ℕ, ◌+◌, ◌*◌, ◌%◌, ◌^◌, List}
use Rattle.gate_journal.specs.declared.half.Half.{Half}
use Rattle.gate_journal.specs.declared.half.Half.TheVariants.{First, Second}

-- the header of a half
abbrev pub header_at : Half → ℕ
header_at First = 0
header_at Second = 64

-- the first slot of a half
abbrev pub half_at : ℕ → Half → ℕ
half_at slots First = 128
half_at slots Second = 128 + 64 * slots

-- a slot of a half
abbrev pub slot_at : ℕ → Half → ℕ → ℕ
slot_at slots half k = half_at slots half + 64 * k

-- the gate of a slot
abbrev pub gate_at : ℕ → Half → ℕ → ℕ
gate_at slots half k = half_at slots half + 64 * k + 63

-- the gate of the header of a half
abbrev pub header_gate : Half → ℕ
header_gate half = header_at half + 63

-- the whole of it, in bytes
abbrev pub journal_length : ℕ → ℕ
journal_length slots = 128 + 128 * slots

abbrev pub other_half : Half → Half
other_half First = Second
other_half Second = First

-- which half of how many slots is in force, how many records it has, and what its header says
pub record Layout : Type 0 where
  pub slots : ℕ
  pub half : Half
  pub count : ℕ
  pub version : ℕ
  pub generation : ℕ
  pub digest : List ℕ

-- a new journal: the first half is in force under version 2 and generation 1, and has no records
abbrev pub new_layout : List ℕ → ℕ → Layout
new_layout digest slots = record { slots = slots; half = First; count = 0; version = 2; generation = 1; digest = digest }

-- the generation after this one; the last is followed by 0
abbrev pub next_generation : ℕ → ℕ
next_generation generation = (generation + 1) % 2 ^ 64
