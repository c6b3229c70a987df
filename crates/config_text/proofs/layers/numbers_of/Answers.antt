use Rattle.std.proofs.Common.{◌≡◌, ℕ, List, [], Ok, arith, length-append, map, subst}
use Rattle.std.proofs.lemmas.List.{map-id}
use Rattle.std.proofs.lemmas.Result.{err_from_is_err_and}
use Rattle.catalog.specs.FirstFault.{grid_number_test}
use Rattle.config_text.specs.Reading.{Fails, entries}
use Rattle.config_text.specs.Layers.{grid_number}
use Rattle.config_text.proofs.Loop.{goes_on, stops, ends, each_more}
use Rattle.config_text.proofs.layers.numbers_of.Goals as goal

pub returns-in_err-number-clause-gives : goal.returns-in_err-number-clause-gives
returns-in_err-number-clause-gives c =
    let p = err_from_is_err_and c.from_residual.result c.from_residual.ensures.1 in
    let fault : Fails c.in_err-number.field-0.0 (entries (grid_number c.args.at c.args.grids.now) [] (map (λ n. n) c.args.names.now)) =
    stops (λ n. n) (grid_number c.args.at c.args.grids.now) c.args.names.now c.loop-name.name-index c.name-item.result c.loop-name.numbers.items c.in_err-number.field-0.0 _ c.loop-name-test.true c.name-item.is (rw (c.as_slice.ensures.value, c.bytes.ensures) at c.in_err-number.ensures.gives) c.loop-name.invariant.same in
    rw (p.1, p.2) (subst (λ (ns : List (List ℕ)). Fails c.in_err-number.field-0.0 (entries (grid_number c.args.at c.args.grids.now) [] ns)) (map-id c.args.names.now) fault)

pub loop-name-preserved : goal.loop-name-preserved
loop-name-preserved c =
    rw c.in_ok-push.ensures.items
    record {
      count = simp length-append (omega arith);
      met = each_more (grid_number_test c.args.at c.args.grids.now) c.loop-name.numbers.items c.in_ok-number.number c.loop-name.invariant.met (rw c.as_slice.ensures.value at c.in_ok-number.ensures.met);
      same = goes_on (λ n. n) (grid_number c.args.at c.args.grids.now) c.args.names.now c.loop-name.name-index c.name-item.result c.loop-name.numbers.items c.in_ok-number.number _ c.loop-name-test.true c.name-item.is (rw (c.as_slice.ensures.value, c.bytes.ensures) at c.in_ok-number.ensures.gives) c.loop-name.invariant.same;
    }

pub returns-clause-gives : goal.returns-clause-gives
returns-clause-gives c =
    subst (λ (ns : List (List ℕ)). entries (grid_number c.args.at c.args.grids.now) [] ns ≡ Ok c.loop-name.numbers.items) (map-id c.args.names.now)
    (ends (λ n. n) (grid_number c.args.at c.args.grids.now) c.args.names.now c.loop-name.name-index c.loop-name.numbers.items _ c.loop-name-test.false c.loop-name.invariant.same)
