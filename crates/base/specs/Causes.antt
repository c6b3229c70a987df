-- When a fault may be answered: only where the count of faults of the object that was handed in rose in this call.
-- A count is a u64; it begins at 0 and stays at its last value, where it counts as risen enough.
use Rattle.std.specs.Prelude.{ℕ, ◌+◌, ◌-◌, ◌^◌, ◌≤◌, min, OnErr}
use Rattle.std.specs.declared.result.Result.{Result}

-- a count after n more faults
abbrev pub risen : ℕ → ℕ → ℕ
risen count n = min (count + n) (2 ^ 64 - 1)

-- the count rose by n at least
abbrev pub RoseBy : ℕ → ℕ → ℕ → Type 0
RoseBy n before now = risen before n ≤ now

-- the count rose
abbrev pub Rose : ℕ → ℕ → Type 0
Rose before now = RoseBy 1 before now

-- the count of the object never falls, and the call answers a fault only where it rose
pub record HasCause {T E : Type 0} (before now : ℕ) (result : Result T E) : Type 0 where
  pub later : before ≤ now
  pub failed : OnErr result (Rose before now)
