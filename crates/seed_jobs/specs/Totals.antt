-- How large the counts of one member can be.
-- A tie between the code and its definitions: the promise can be read without it.
use Rattle.std.specs.Prelude.{◌≤◌}
use Rattle.job_places.specs.declared.tally.Tally.{Tally}

-- each count is one of the places of a job
pub record HasFew (t : Tally) : Type 0 where
  pub places : t.places ≤ 10000000
  pub done : t.done ≤ 10000000
  pub failed : t.failed ≤ 10000000
  pub unkept : t.unkept ≤ 10000000
