-- What a call sees of its source, its output and its input.
use Rattle.std.specs.Prelude.{ℕ, List, Option}

-- a count of faults before a call and after it
pub record FaultCounts : Type 0 where
  pub before : ℕ
  pub after : ℕ

abbrev pub counts : ℕ → ℕ → FaultCounts
counts before after = record { before = before; after = after }

-- what a call saw of its source, its output and the disk of its cabinet: the number that is modelled of the source, their faults,
-- and what the output has taken, where it is modelled
pub record Outside : Type 0 where
  pub told : Option ℕ
  pub renders : FaultCounts
  pub disk : FaultCounts
  pub writes : FaultCounts
  pub from : Option (List ℕ)
  pub to : Option (List ℕ)

-- what a call saw of its input: its faults, and the bytes that are left, where they are modelled
pub record InputChange : Type 0 where
  pub reads : FaultCounts
  pub from : Option (List ℕ)
  pub to : Option (List ℕ)

-- what a call did to its output: the faults of its writes, and what the output has taken, where it is modelled
pub record OutputChange : Type 0 where
  pub writes : FaultCounts
  pub from : Option (List ℕ)
  pub to : Option (List ℕ)

abbrev pub output_in : Outside → OutputChange
output_in o = record { writes = o.writes; from = o.from; to = o.to }
