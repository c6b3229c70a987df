-- What a request that asks for no tile comes to for a thread that has the cabinet for itself: it has its outcome in one step.
-- A tie between the code and its definitions: the promise can be read without it.
use Rattle.std.specs.Prelude.{ℕ, ◌≡◌, None}
use Rattle.cabinet.specs.State.{State}
use Rattle.base.specs.Causes.{RoseBy}
use Rattle.tile_requests.specs.declared.outcome.Outcome.{Outcome}
use Rattle.tile_requests.specs.declared.request.Request.{Request}
use Rattle.tile_requests.specs.Requests.{Chance, at_once, disk_faults_in, tile_of}

-- what is no request for a tile came to this outcome and this cabinet, under a chance that names no more faults of the disk than its count
-- rose by
pub record IsImmediate (before after : ℕ) (s : State) (r : Request) (o : Outcome) (t : State) : Type 0 where
  pub chance : Chance
  pub other : tile_of r ≡ None
  pub faults : RoseBy (disk_faults_in chance) before after
  pub made : at_once s chance r ≡ (t, o)
