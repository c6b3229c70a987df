use Rattle.std.proofs.Common.{arith, length-append}
use Rattle.std.proofs.lemmas.Result.{err_from_is_err_and}
use Rattle.serde_json.specs.View.{view}
use Rattle.catalog.specs.FirstFault.{layer_test}
use Rattle.config_text.specs.Layers.{layer_of}
use Rattle.config_text.proofs.Loop.{goes_on, stops, ends, each_more}
use Rattle.config_text.proofs.layers.each_layer.Goals as goal

pub returns-in_err-layer-clause-gives : goal.returns-in_err-layer-clause-gives
returns-in_err-layer-clause-gives c =
    let p = err_from_is_err_and c.from_residual.result c.from_residual.ensures.1 in
    rw (p.1, p.2) (stops view (layer_of c.args.grids.now) c.args.values.now c.loop-value.value-index c.value-item.result c.loop-value.layers.items c.in_err-layer.field-0.0 _ c.loop-value-test.true c.value-item.is (rw c.as_slice.ensures.value at c.in_err-layer.ensures.gives) c.loop-value.invariant.same)

pub loop-value-preserved : goal.loop-value-preserved
loop-value-preserved c =
    rw c.in_ok-push.ensures.items
    record {
      count = simp length-append (omega arith);
      met = each_more (layer_test c.args.grids.now) c.loop-value.layers.items c.in_ok-layer.layer c.loop-value.invariant.met (rw c.as_slice.ensures.value at c.in_ok-layer.ensures.met);
      same = goes_on view (layer_of c.args.grids.now) c.args.values.now c.loop-value.value-index c.value-item.result c.loop-value.layers.items c.in_ok-layer.layer _ c.loop-value-test.true c.value-item.is (rw c.as_slice.ensures.value at c.in_ok-layer.ensures.gives) c.loop-value.invariant.same;
    }

pub returns-clause-gives : goal.returns-clause-gives
returns-clause-gives c = ends view (layer_of c.args.grids.now) c.args.values.now c.loop-value.value-index c.loop-value.layers.items _ c.loop-value-test.false c.loop-value.invariant.same
