-- Who runs the jobs of a server.
use Rattle.std.specs.Prelude.{◌≡◌, All, List}
use Rattle.catalog.specs.declared.catalogue.Catalogue.{Catalogue}
use Rattle.job_board.specs.Calls.{BoardHolding, IsFirstBoardPass}
use Rattle.seed_jobs.specs.Idles.{AreOfSources, HasHeard, MayJoin, Standby}
use Rattle.seed_jobs.specs.Runs.{RunsAll}
use Rattle.server_workers.specs.Stints.{Service}

-- the jobs that were run until none waited; and from what was heard then, those until none waited again
pub record HasRunOn (c : Catalogue) (before : Standby) : Type 0 where
  pub between : Standby
  pub runs : RunsAll c before between
  pub heard : Standby
  pub after : Standby
  pub runs_on : RunsAll c heard after

module _ {L S : Type 0} (s : Service L S) where
  -- it has a place at the board, its members have passes of the hall and may work, and none has made anything yet
  pub record IsNewRunner (runner : Standby) : Type 0 where
    pub at_board : IsFirstBoardPass s.board runner.board
    pub members : All (MayJoin s.first.table s.catalogue) runner.idle
    pub nothing : All (λ i. i.pass ≡ s.first) runner.idle

  -- From then on each job that it took from the board was run over the hall, one after the other, until its look found none waiting. When
  -- all links had been served it heard of all jobs that these passes of the board know, and ran on: its last look found none waiting on a
  -- board with all of them. What its members' sources had done at the end is what sources of the server have done.
  pub record HasRunJobs (boards : List BoardHolding) : Type 0 where
    pub before : Standby
    pub new : IsNewRunner before
    pub on : HasRunOn s.catalogue before
    pub sources : AreOfSources s.sources.faults s.sources.gave on.after.idle
    pub heard : HasHeard on.between on.heard boards
