use Rattle.twin_words.proofs.stopping.restart_side.Goals as goal

pub returns-in-Leader-clause-restarts : goal.returns-in-Leader-clause-restarts
returns-in-Leader-clause-restarts g c = rw c.in-Leader.is c.restarted_leader.ensures.restarts

pub returns-in-Leader-clause-closed : goal.returns-in-Leader-clause-closed
returns-in-Leader-clause-closed g c = rw c.in-Leader.is c.restarted_leader.ensures.closed

pub returns-in-Follower-clause-restarts : goal.returns-in-Follower-clause-restarts
returns-in-Follower-clause-restarts g c = rw c.in-Follower.is c.restarted_follower.ensures.restarts

pub returns-in-Follower-clause-closed : goal.returns-in-Follower-clause-closed
returns-in-Follower-clause-closed g c = rw c.in-Follower.is c.restarted_follower.ensures.closed
