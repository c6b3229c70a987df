-- What the links of a listener are served with.
-- A tie between the code and its definitions: the promise can be read without it.
use Rattle.std.specs.Prelude.{ℕ, ◌≡◌, Bool, List, [], Option, Some}
use Rattle.std.specs.List.{Contains}
use Rattle.atomic_table.specs.Seated.{TableId}
use Rattle.cache_hall.specs.Turned.{HallPass}
use Rattle.server_workers.specs.Cancelled.{HasCancelledOn}
use Rattle.server_workers.specs.Crew.{AreSupplies, HasServedLinks}
use Rattle.server_workers.specs.Runners.{HasRunOn, IsNewRunner}
use Rattle.server_workers.specs.Served.{Listened}
use Rattle.server_workers.specs.Stints.{Service}
use Rattle.server_workers.specs.Upkept.{IsKeptUpBy}
use Rattle.job_board.specs.Calls.{BoardHolding, IsFirstBoardPass}
use Rattle.seed_jobs.specs.Idles.{AreOfSources, Standby}
use Rattle.seed_jobs.specs.Idles as idles

-- supplies that nobody has used yet, of what is served under a first pass of this hall, which has made nothing
pub record IsSupplied {L S : Type 0} (table : TableId) (service : HallPass → Service L S) (tells : S → Option ℕ) (passes : List HallPass) (boards : List BoardHolding) (sources : List S) : Type 0 where
  pub first : HallPass
  pub of : first.table ≡ table
  pub charter : first.charter ≡ Some (service first).catalogue
  pub unused : first.made ≡ []
  pub supplies : AreSupplies (service first) tells passes boards sources

-- all links that were given were served, all jobs were run or cancelled, and the cache was kept up, by passes that are among these
pub record HasServedBy {L S : Type 0} (s : Service L S) (h : Listened L) (passes : List HallPass) (all : Bool) : Type 0 where
  pub before : Standby
  pub new : IsNewRunner s before
  pub on : HasRunOn s.catalogue before
  pub among : (p : HallPass) → Contains (idles.passes_of on.after.idle) p → Contains passes p
  pub sources : AreOfSources s.sources.faults s.sources.gave on.after.idle
  pub upkeep : IsKeptUpBy s.catalogue s.first passes
  pub canceller : BoardHolding
  pub place : IsFirstBoardPass s.board canceller
  pub cancels : HasCancelledOn canceller
  pub links : HasServedLinks s h.connections h.given_before h.given_after h.accepts.before h.accepts.after passes on.between on.heard cancels.heard all
