use Rattle.std.proofs.Common.{arith, length-append}
use Rattle.std.proofs.lemmas.Result.{err_from_is_err_and}
use Rattle.serde_json.specs.View.{view}
use Rattle.http_source.specs.Forms.{layer_url}
use Rattle.http_source.proofs.Entries.{goes_on, stops, ends}
use Rattle.http_source.proofs.layers.each_layer.Goals as goal

pub returns-in_err-entry-clause-gives : goal.returns-in_err-entry-clause-gives
returns-in_err-entry-clause-gives c =
    let p = err_from_is_err_and c.from_residual.result c.from_residual.ensures.1 in
    rw (p.1, p.2) (stops view (layer_url c.args.catalogue.now) c.args.objects.now c.loop-object.object-index c.object-item.result c.loop-object.entries.items c.in_err-entry.field-0.0 _ c.loop-object-test.true c.object-item.is (rw c.as_slice.ensures.value at c.in_err-entry.ensures) c.loop-object.invariant.same)

pub loop-object-preserved : goal.loop-object-preserved
loop-object-preserved c =
    rw c.in_ok-push.ensures.items
    record {
      count = simp length-append (omega arith);
      same = goes_on view (layer_url c.args.catalogue.now) c.args.objects.now c.loop-object.object-index c.object-item.result c.loop-object.entries.items c.in_ok-entry.entry _ c.loop-object-test.true c.object-item.is (rw c.as_slice.ensures.value at c.in_ok-entry.ensures) c.loop-object.invariant.same;
    }

pub returns-clause-gives : goal.returns-clause-gives
returns-clause-gives c = ends view (layer_url c.args.catalogue.now) c.args.objects.now c.loop-object.object-index c.loop-object.entries.items _ c.loop-object-test.false c.loop-object.invariant.same
