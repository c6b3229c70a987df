use Rattle.std.proofs.Common.{◌∙◌, ap, sym, List}
use Rattle.truncation_list.specs.declared.book.Cut.{Cut}
use Rattle.truncation_list.specs.Listed.{outermost}
use Rattle.truncation_list.proofs.Outermost.{settled_after, settled_remaining}
use Rattle.truncation_list.proofs.purge.purge.Goals as goal

pub returns-then-is_settled-clause-cuts : goal.returns-then-is_settled-clause-cuts
returns-then-is_settled-clause-cuts c =
    c.let_go.ensures.cuts ∙ sym (settled_remaining c.args.cover.now c.args.least c.args.cuts.now.cuts (c.requires c.if-is_settled.true))

pub returns-clause-cuts : goal.returns-clause-cuts
returns-clause-cuts c =
    c.settle.ensures.cuts
    ∙ ap (λ (ks : List Cut). outermost ks) c.let_go.ensures.cuts ∙ settled_after c.args.cover.now c.args.least c.args.cuts.now.cuts c.len-count.ensures.order.by_number

pub returns-clause-ready : goal.returns-clause-ready
returns-clause-ready c = λ cover h. c.settle.ensures.ready cover (c.let_go.ensures.ready cover h)
