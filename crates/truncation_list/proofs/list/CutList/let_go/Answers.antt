use Rattle.std.proofs.Common.{subst, sym, List}
use Rattle.truncation_list.specs.declared.book.Cut.{Cut}
use Rattle.truncation_list.specs.Listed.{HasRoomFor, IsSettled, Listed}
use Rattle.truncation_list.specs.Purge.{IsInOrder}
use Rattle.truncation_list.proofs.Settled.{remaining_settled}
use Rattle.truncation_list.proofs.list.CutList.let_go.Goals as goal

pub invariant_of-self : goal.invariant_of-self
invariant_of-self c =
    λ _. subst (λ (cuts : List Cut). IsSettled cuts) (sym c.purge.ensures.cuts) (remaining_settled c.args.cover.now c.args.least c.self.inside.cuts.cuts)

pub returns-clause-ready : goal.returns-clause-ready
returns-clause-ready c =
    λ cover h. c.purge.ensures.ready cover (subst (λ (l : Listed). HasRoomFor l.room cover) (sym c.self.view_is) h)

pub returns-clause-order : goal.returns-clause-order
returns-clause-order c = subst (λ (l : Listed). IsInOrder l.book.cuts) c.self.view_is c.floor_after-self-inside.ensures.order
