use Rattle.std.proofs.Common.{length, refl, rules}
use Rattle.std.proofs.lemmas.Option.{slice_get_read}
use Rattle.serde_json.specs.View.{view}
use Rattle.fault_paths.specs.Unknown.{layer_lines}
use Rattle.fault_paths.proofs.Placed.{one_placed}
use Rattle.fault_paths.proofs.unknown.add_each_layer.Goals as goal

pub loop-place-preserved : goal.loop-place-preserved
loop-place-preserved c =
    let xs = c.args.layers.now in
    let i = c.loop-place.place in
    let x = slice_get_read xs (length xs) i c.index-layers-place.result refl (search rules) c.index-layers-place.is in
    record { rest = one_placed view layer_lines xs i c.index-layers-place.result c.loop-place.text.items c.add_layer.new.text.items _ x c.loop-place.invariant.rest c.in_ok-add_layer.ensures }
