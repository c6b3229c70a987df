use Rattle.std.proofs.Common.{length, refl, rules}
use Rattle.std.proofs.lemmas.Option.{slice_get_read}
use Rattle.serde_json.specs.View.{view}
use Rattle.fault_paths.specs.Unknown.{own_lines}
use Rattle.fault_paths.proofs.Placed.{one_placed}
use Rattle.fault_paths.proofs.unknown.add_inner.Goals as goal

pub loop-place-preserved : goal.loop-place-preserved
loop-place-preserved c =
    let xs = c.args.objects.now in
    let i = c.loop-place.place in
    let x = slice_get_read xs (length xs) i c.index-objects-place.result refl (search rules) c.index-objects-place.is in
    record { rest = one_placed view (own_lines c.args.owner c.args.outer) xs i c.index-objects-place.result c.loop-place.text.items c.add_own.new.text.items _ x c.loop-place.invariant.rest c.in_ok-add_own.ensures }
