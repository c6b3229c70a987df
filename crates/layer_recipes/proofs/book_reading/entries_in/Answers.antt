use Rattle.std.proofs.Common.{arith, length-append}
use Rattle.layer_recipes.specs.Books.{IsNamedOf}
use Rattle.layer_recipes.proofs.Entering.{ends, fault_ends, goes_on}
use Rattle.layer_recipes.proofs.Loop.{all_more}
use Rattle.layer_recipes.proofs.book_reading.entries_in.Goals as goal

pub returns-in-Err-clause-gives : goal.returns-in-Err-clause-gives
returns-in-Err-clause-gives c =
    fault_ends c.args.catalogue.now _ c.loop-name.recipes.items c.loop-name.name-iterator c.next.new.self c.in-Some.name.now c.in-Some.value.now c.in-Err.fault c.in-Some.ensures.steps (rw (c.as_slice.ensures.value, c.as_bytes.ensures.value) at c.in-Err.ensures.gives) c.loop-name.invariant.same

pub loop-name-preserved : goal.loop-name-preserved
loop-name-preserved c =
    rw c.in_ok-push.ensures.items
    record {
      few = let room = c.in-Ok.ensures.few in simp length-append (omega (arith, room));
      of = all_more (IsNamedOf c.args.catalogue.now) c.loop-name.recipes.items c.in-Ok.recipe c.loop-name.invariant.of c.in-Ok.ensures.of;
      same = goes_on c.args.catalogue.now _ c.loop-name.recipes.items c.loop-name.name-iterator c.next.new.self c.in-Some.name.now c.in-Some.value.now c.in-Ok.recipe c.in-Some.ensures.steps (rw (c.as_slice.ensures.value, c.as_bytes.ensures.value) at c.in-Ok.ensures.gives) c.loop-name.invariant.same;
    }

pub returns-clause-gives : goal.returns-clause-gives
returns-clause-gives c = ends c.args.catalogue.now _ c.loop-name.recipes.items c.loop-name.name-iterator c.in-None.ensures.steps.0 c.loop-name.invariant.same
