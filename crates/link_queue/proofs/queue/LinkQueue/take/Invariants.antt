use Rattle.crossbeam_queue.specs.Passes.{view}
use Rattle.link_queue.specs.Hands.{IsHand, table_of}
use Rattle.link_queue.proofs.queue.LinkQueue.take.Given as goal

abbrev pub invariant-taking : goal.invariant-taking
invariant-taking g l = IsHand (table_of l.self.links) (view l.initial.mine) l.mine
