-- What the serving of a listener's links over a hall comes to.
use Rattle.std.specs.Prelude.{ℕ, ◌≡◌, ◌++◌, List, [], ◌∷◌, length}
use Rattle.cache_hall.specs.Turned.{HallPass}
use Rattle.base.specs.Causes.{Rose}
use Rattle.server_workers.specs.Between.{AreNewer}
use Rattle.server_workers.specs.Cancelled.{HasCancelledJobs}
use Rattle.server_workers.specs.Runners.{HasRunJobs}
use Rattle.server_workers.specs.Stints.{AreServed, Service, boards_of, passes_of}
use Rattle.server_workers.specs.Upkept.{HasKeptUp}
use Rattle.server_workers.specs.declared.ends.ServiceEnd.{ServiceEnd}
use Rattle.server_workers.specs.declared.ends.ServiceEnd.TheVariants as end
use Rattle.seed_jobs.specs.Idles as idles
use Rattle.sessions.specs.Outside.{FaultCounts}
use Rattle.turnstile.specs.Line.{AreInLine}

-- how many links a listener is asked for, those that it had given before and after, and how often its accepts had failed
pub record Listened (L : Type 0) : Type 0 where
  pub connections : ℕ
  pub given_before : List L
  pub given_after : List L
  pub accepts : FaultCounts

-- Each link that the listener gave was served to the end of one session, by passes of one turnstile, which had made nothing before their
-- first session, and from places at one board, on which there was no job at first; jobs were run from that board until none waited of all
-- that the sessions had submitted; at the end each of these was cancelled; meanwhile one pass that had made nothing kept the cache up, and
-- did nothing else. The turns of all of them stand in one line, and of any two of them what was asked for is newer than what was truncated
-- before.
pub record HasServedOver {L S : Type 0} (s : Service L S) (h : Listened L) : Type 0 where
  pub links : List L
  pub given : h.given_after ≡ h.given_before ++ links
  pub served : AreServed s links
  pub jobs : HasRunJobs s (boards_of served.stints)
  pub cancelled : HasCancelledJobs s.board (boards_of served.stints)
  pub upkeep : HallPass
  pub kept_up : HasKeptUp s.catalogue s.first upkeep
  pub line : AreInLine (passes_of served.stints ++ idles.passes_of jobs.on.after.idle ++ upkeep ∷ [])
  pub newer : AreNewer s.catalogue (passes_of served.stints ++ idles.passes_of jobs.on.after.idle ++ upkeep ∷ [])

-- What each end says: as many links were given as were asked for, and served; those that were given were served, and an accept had failed;
-- memory ran out, or threads could not be made, before the listener was asked for the first link.
abbrev pub HasEndedOver : {L S : Type 0} → Service L S → Listened L → Type 0 → ServiceEnd → Type 0
HasEndedOver s h ListenerStays end.Done = (o : HasServedOver s h) × (length o.links ≡ h.connections)
HasEndedOver s h ListenerStays end.ListenFault = HasServedOver s h × Rose h.accepts.before h.accepts.after
HasEndedOver s h ListenerStays end.OutOfMemory = ListenerStays
HasEndedOver s h ListenerStays end.NoThreads = ListenerStays
