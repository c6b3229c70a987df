use Rattle.std.proofs.Common.{◌∙◌, ap, sym, List}
use Rattle.std.specs.Prelude.{filter}
use Rattle.truncation_list.specs.declared.book.Cut.{Cut}
use Rattle.truncation_list.specs.Slots.{no_cut, stays}
use Rattle.truncation_list.proofs.Filters.{filter_removed, filter_whole}
use Rattle.truncation_list.proofs.purge.let_go.Goals as goal

pub returns-in-None-clause-cuts : goal.returns-in-None-clause-cuts
returns-in-None-clause-cuts c =
    sym (filter_whole (stays c.args.cover.now c.args.least) c.taking.cuts.cuts c.in-None.ensures) ∙ c.taking.invariant.cuts

pub taking-preserved : goal.taking-preserved
taking-preserved c =
    let test = stays c.args.cover.now c.args.least in
    let goes = c.in-Some.ensures in
    record {
      cuts = ap (λ (cuts : List Cut). filter test cuts) c.take_out.ensures.cuts ∙ filter_removed test c.taking.cuts.cuts c.in-Some.i no_cut goes.0 goes.1 ∙ c.taking.invariant.cuts;
      ready = λ cover h. c.take_out.ensures.ready cover (c.taking.invariant.ready cover h);
    }

pub returns-clause-ready : goal.returns-clause-ready
returns-clause-ready c = λ cover h. c.sweep.ensures.ready cover (c.taking.invariant.ready cover h)
