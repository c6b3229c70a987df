use Rattle.std.proofs.Common.{rules}
use Rattle.truncation_list.proofs.Freed.{retained_is}
use Rattle.truncation_list.proofs.slots.free_going.Goals as goal

pub returns-clause-slots : goal.returns-clause-slots
returns-clause-slots c =
    retained_is _ c.args.cover.now c.args.least _ (λ key shown keep left next s. search rules) 0 _ _ c.retain.ensures.retained
