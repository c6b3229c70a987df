use Rattle.std.proofs.Common.{◌≡◌, Some, None, arith, sym, ap, length, ◌∙◌}
use Rattle.std.specs.Prelude.{option_copied, slice_get}
use Rattle.tile_requests.proofs.Counts.{counted_first, counted_more, counted_vainly, is_there}
use Rattle.cache_access.proofs.Going.{goes_here, goes_on}
use Rattle.tile_requests.proofs.usage.layer_lines.Goals as goal

pub overflow_cast-layers : goal.overflow_cast-layers
overflow_cast-layers g c = let many = c.len-layers.ensures ∙ ap (λ d. length d.layers) c.catalogue.ensures in omega (arith, many, c.requires.valid.layers_most)

pub counting-init : goal.counting-init
counting-init g c =
    let A = g.A.Access in
    let way = c.args.access.now in
    let x = c.args.cache.now in
    record {
      told = counted_first (A.gains way) (A.catalogue way x) x x x (A.gains_none way x) _ c.new-text.ensures.items;
      goes = goes_here (A.catalogue way) (A.reaches way) (A.owes way) (A.lasts way) x c.requires.reaches (A.lasts_itself way x);
      still = λ s. s;
      rests = λ r. r;
      layers = c.len-layers.ensures ∙ ap (λ d. length d.layers) c.catalogue.ensures;
      within = omega arith;
    }

pub unreachable-requires : goal.unreachable-requires
unreachable-requires g c =
    let i = c.counting.invariant in
    let A = g.A.Access in
    let same = c.catalogue-in-counting.ensures ∙ c.usage-counts.ensures.goes.same ∙ i.goes.same in
    let ls = (A.catalogue c.args.access.now c.args.cache.now).layers in
    let none : slice_get ls c.counting.number ≡ None = ap (λ d. slice_get d.layers c.counting.number) (sym same) ∙ sym c.get.ensures ∙ ap option_copied c.in_default.is in
    is_there ls c.counting.number (omega (arith, i.layers, c.counting-test.true)) none

pub returns-in-Err-clause-vain : goal.returns-in-Err-clause-vain
returns-in-Err-clause-vain g c =
    let A = g.A.Access in
    let way = c.args.access.now in
    let x = c.args.cache.now in
    counted_vainly (A.gains way) (A.catalogue way x) x c.counting.cache c.usage-counts.new.cache (A.gains_on way x c.counting.cache c.usage-counts.new.cache) _ _ _ c.counting.invariant.told c.usage-counts.ensures.done

pub counting-preserved : goal.counting-preserved
counting-preserved g c =
    let A = g.A.Access in
    let way = c.args.access.now in
    let x = c.args.cache.now in
    let y = c.counting.cache in
    let z = c.usage-counts.new.cache in
    let i = c.counting.invariant in
    let same = c.catalogue-in-counting.ensures ∙ c.usage-counts.ensures.goes.same ∙ i.goes.same in
    let there : slice_get (A.catalogue way x).layers c.counting.number ≡ Some c.in-Some.layer.now = ap (λ d. slice_get d.layers c.counting.number) (sym same) ∙ sym c.get.ensures ∙ ap option_copied c.in-Some.is in
    record {
      told = counted_more (A.gains way) (A.catalogue way x) x y z (A.gains_on way x y z) c.counting.number c.in-Some.layer.now c.usage-counts.result _ _ i.told c.usage-counts.ensures.done there c.in-Ok.ensures;
      goes = goes_on (A.catalogue way) (A.reaches way) (A.owes way) (A.lasts way) x y z (A.lasts_on way x y z) i.goes c.usage-counts.ensures.goes;
      still = λ s. c.usage-counts.ensures.still (i.still s);
      rests = λ r. c.usage-counts.ensures.rests (i.rests r);
      layers = i.layers;
      within = omega (arith, i.layers, c.counting-test.true);
    }
