use Rattle.std.proofs.Common.{◌≡◌, ◌-◌, List, drop, length, length-drop, take, subst, arith}
use Rattle.std.proofs.lemmas.List.{take_all}
use Rattle.catalog.specs.declared.grid.Grid.{Grid}
use Rattle.matrix_geometry.specs.declared.matrix.Matrix.{Matrix}
use Rattle.tile_grain.specs.Grain.{AreLongIn, AreLongOn}
use Rattle.tile_grain.proofs.Weaker.{long_in, weaker_in}
use Rattle.tile_grain.proofs.grain.+least_in.Goals as goal

pub returns-in-len1-up-clause-least : goal.returns-in-len1-up-clause-least
returns-in-len1-up-clause-least t c =
    let grids : List Grid = c.args.grids.now in
    let least = c.least_on.result in
    let rest : take (length grids - 1) (drop 1 grids) ≡ drop 1 grids = take_all (length grids - 1) (drop 1 grids) (let e = length-drop 1 grids in omega arith) in
    long_in least c.first-item.result grids c.in-len1-up.len_at_least c.first-item.is
    (subst (λ (l : List Matrix). AreLongOn least l) c.as_slice.ensures c.least_on.ensures.least)
    (weaker_in least c.least_in-least.result (drop 1 grids) c.least_on.ensures.most (subst (AreLongIn c.least_in-least.result) rest c.least_in-least.ensures.least))
