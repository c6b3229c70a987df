use Rattle.std.proofs.Common.{rules, ap}
use Rattle.std.specs.Ordering.{is_lt}
use Rattle.std.proofs.lemmas.List.Sorted.{answers_always}
use Rattle.cabinet.proofs.Writing.{lesser_rank, ranks_weak, sorted_order}
use Rattle.cabinet.proofs.ranking.sort.Goals as goal

pub returns-clause-sorted : goal.returns-clause-sorted
returns-clause-sorted c = sorted_order _ (c.sort_unstable_by.ensures.sorted lesser_rank ranks_weak (answers_always _ _ _ (λ f a r f' k. ap is_lt (search rules))))
