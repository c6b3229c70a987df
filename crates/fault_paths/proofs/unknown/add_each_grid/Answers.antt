use Rattle.std.proofs.Common.{length, refl, rules}
use Rattle.std.proofs.lemmas.Option.{slice_get_read}
use Rattle.serde_json.specs.View.{view}
use Rattle.fault_paths.specs.Unknown.{grid_lines}
use Rattle.fault_paths.proofs.Placed.{one_placed}
use Rattle.fault_paths.proofs.unknown.add_each_grid.Goals as goal

pub loop-place-preserved : goal.loop-place-preserved
loop-place-preserved c =
    let xs = c.args.grids.now in
    let i = c.loop-place.place in
    let x = slice_get_read xs (length xs) i c.index-grids-place.result refl (search rules) c.index-grids-place.is in
    record { rest = one_placed view grid_lines xs i c.index-grids-place.result c.loop-place.text.items c.add_grid.new.text.items _ x c.loop-place.invariant.rest c.in_ok-add_grid.ensures }
