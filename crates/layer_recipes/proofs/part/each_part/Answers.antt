use Rattle.std.proofs.Common.{length, sym, arith, length-append}
use Rattle.std.proofs.lemmas.Result.{err_from_is_err_and}
use Rattle.serde_json.specs.View.{view}
use Rattle.layer_recipes.specs.OfCatalogue.{IsPartOf}
use Rattle.layer_recipes.specs.Recipes.{part_in}
use Rattle.layer_recipes.proofs.Loop.{all_more, ends, fails_of, goes_on, stops}
use Rattle.layer_recipes.proofs.part.each_part.Goals as goal

pub returns-in_err-part-clause-gives : goal.returns-in_err-part-clause-gives
returns-in_err-part-clause-gives c =
    let p = err_from_is_err_and c.from_residual-in_err-part.result c.from_residual-in_err-part.ensures.1 in
    rw (p.1, p.2) (stops view (λ before. part_in c.args.catalogue.now c.args.grid (length before)) c.args.objects.now c.loop-object.object-index c.object-item.result c.loop-object.parts.items c.in_err-part.field-0.0 _ c.loop-object-test.true c.object-item.is (fails_of c.in_err-part.field-0.0 _ (rw c.as_slice.ensures.value at c.in_err-part.ensures.value)) c.loop-object.invariant.same)

pub loop-object-preserved : goal.loop-object-preserved
loop-object-preserved c =
    rw c.in_ok-push.ensures.items
    record {
      count = simp length-append (omega arith);
      of = all_more (IsPartOf c.args.catalogue.now c.args.grid) c.loop-object.parts.items c.in_ok-part.part c.loop-object.invariant.of c.in_ok-part.ensures.of;
      same = goes_on view (λ before. part_in c.args.catalogue.now c.args.grid (length before)) c.args.objects.now c.loop-object.object-index c.object-item.result c.loop-object.parts.items c.in_ok-part.part _ c.loop-object-test.true c.object-item.is (sym (rw c.as_slice.ensures.value at c.in_ok-part.ensures.value)) c.loop-object.invariant.same;
    }

pub returns-clause-gives : goal.returns-clause-gives
returns-clause-gives c = ends view (λ before. part_in c.args.catalogue.now c.args.grid (length before)) c.args.objects.now c.loop-object.object-index c.loop-object.parts.items _ c.loop-object-test.false c.loop-object.invariant.same
