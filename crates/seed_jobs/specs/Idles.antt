-- The members of a runner while they have no job.
use Rattle.std.specs.Prelude.{ℕ, ◌≡◌, true, List, [], map, Option, Some, All}
use Rattle.atomic_table.specs.Seated.{TableId}
use Rattle.cache_hall.specs.Turned.{HallPass, IsPassOf}
use Rattle.catalog.specs.declared.catalogue.Catalogue.{Catalogue}
use Rattle.job_board.specs.Calls.{BoardHolding, IsBoardPass}
use Rattle.seed_jobs.specs.Workers.{JobWorker}
use Rattle.source_render.specs.Renders.{GivenImage, Renders, renders}
use Rattle.truncation_list.specs.Books.{AnswersForFronted}
use Rattle.turnstile.specs.Passes.{seen_by}
use Rattle.seed_jobs.specs.declared.runner.IdleMember.{IdleMember}

-- a member without a job: its pass of the hall, the number that its source tells, and what that has done
pub record Idle : Type 0 where
  pub pass : HallPass
  pub source : Option ℕ
  pub renders : Renders

-- a runner: its pass of the board, and its members
pub record Standby : Type 0 where
  pub board : BoardHolding
  pub idle : List Idle

-- by which number a source tells, how often it has failed, and what it gave
module _ {K S G : Type 0} (tells : S → Option ℕ) (faults : S → ℕ) (gave : S → List GivenImage) where
  abbrev pub idle_of : IdleMember K S G → Idle
  idle_of m = record { pass = m.pass; source = tells m.source; renders = renders (faults m.source) (gave m.source) }

  abbrev pub all_idle : List (IdleMember K S G) → List Idle
  all_idle ms = map idle_of ms

-- what each of these has done is what a source has
module _ {S : Type 0} (faults : S → ℕ) (gave : S → List GivenImage) where
  pub record IsOfSource (i : Idle) : Type 0 where
    pub source : S
    pub has_done : i.renders ≡ renders (faults source) (gave source)

  abbrev pub AreOfSources : List Idle → Type 0
  AreOfSources idle = All IsOfSource idle

abbrev pub passes_of : List Idle → List HallPass
passes_of idle = map (λ i. i.pass) idle

-- the worker of a crew without its hand
abbrev pub without_hand : JobWorker → Idle
without_hand w = record { pass = w.pass; source = w.source; renders = w.renders }

-- its pass is of the hall, and where the hall is told to be sound its source renders the catalogue's pictures
pub record MayJoin (table : TableId) (c : Catalogue) (i : Idle) : Type 0 where
  pub of_hall : IsPassOf table c i.pass
  pub source : i.pass.told ≡ true → i.source ≡ Some c.source

-- the runner has a pass of this board, and its members may work over this hall
pub record IsStandbyReady (boards table : TableId) (c : Catalogue) (r : Standby) : Type 0 where
  pub of_board : IsBoardPass boards r.board
  pub idle : All (MayJoin table c) r.idle

-- the runner has heard of all jobs of which these passes of the board know, and did nothing else
pub record HasHeard (before after : Standby) (others : List BoardHolding) : Type 0 where
  pub idle : after.idle ≡ before.idle
  pub is : after.board ≡ seen_by before.board after.board.book []
  pub mine : AnswersForFronted after.board.book before.board.book
  pub theirs : All (λ p. AnswersForFronted after.board.book p.book) others
