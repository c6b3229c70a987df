-- What an acceptor has done.
-- A tie between the code and its definitions: the promise can be read without it.
use Rattle.std.specs.Prelude.{ℕ, ◌≡◌, Bool, List, ◌++◌, length, MatchBool}
use Rattle.atomic_table.specs.Seated.{TableId}
use Rattle.base.specs.Causes.{Rose}
use Rattle.crossbeam_queue.specs.Passes.{Pass}
use Rattle.link_queue.specs.Hands.{IsHand, hand}
use Rattle.link_queue.specs.declared.hand.QueueHand.{QueueHand}

-- the listener gave these links, and each was put into the queue: as many as were asked for, or else an accept failed
pub record HasAccepted {L : Type 0} (queue : TableId) (asked : ℕ) (before : QueueHand L) (after : Pass L (QueueHand L)) (given_before given_after : List L) (faults_before faults_after : ℕ) (all : Bool) : Type 0 where
  pub links : List L
  pub given : given_after ≡ given_before ++ links
  pub put : IsHand queue (hand before.parts (before.put ++ links) before.taken) after
  pub each : MatchBool all (length links ≡ asked) (Rose faults_before faults_after)
