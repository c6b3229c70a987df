use Rattle.std.proofs.Common.{arith, length-append}
use Rattle.std.proofs.lemmas.Result.{err_from_is_err_and}
use Rattle.serde_json.specs.View.{view}
use Rattle.config_text.proofs.Loop.{goes_on, stops, ends, each_more}
use Rattle.config_text.proofs.each.each.Goals as goal

pub returns-in_err-entry-clause-gives : goal.returns-in_err-entry-clause-gives
returns-in_err-entry-clause-gives g c =
    let p = err_from_is_err_and c.from_residual.result c.from_residual.ensures.1 in
    rw (p.1, p.2) (stops view (g.E.Entry.entry c.args.owner.now) c.args.values.now c.loop-value.value-index c.value-item.result c.loop-value.entries.items c.in_err-entry.field-0.0 _ c.loop-value-test.true c.value-item.is (rw c.as_slice.ensures.value at c.in_err-entry.ensures.gives) c.loop-value.invariant.same)

pub loop-value-preserved : goal.loop-value-preserved
loop-value-preserved g c =
    rw c.in_ok-push.ensures.items
    record {
      count = simp length-append (omega arith);
      met = each_more (g.E.Entry.met) c.loop-value.entries.items c.in_ok-entry.entry c.loop-value.invariant.met (rw c.as_slice.ensures.value at c.in_ok-entry.ensures.met);
      same = goes_on view (g.E.Entry.entry c.args.owner.now) c.args.values.now c.loop-value.value-index c.value-item.result c.loop-value.entries.items c.in_ok-entry.entry _ c.loop-value-test.true c.value-item.is (rw c.as_slice.ensures.value at c.in_ok-entry.ensures.gives) c.loop-value.invariant.same;
    }

pub returns-clause-gives : goal.returns-clause-gives
returns-clause-gives g c = ends view (g.E.Entry.entry c.args.owner.now) c.args.values.now c.loop-value.value-index c.loop-value.entries.items _ c.loop-value-test.false c.loop-value.invariant.same
