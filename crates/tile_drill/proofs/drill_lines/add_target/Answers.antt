use Rattle.std.proofs.Common.{[], codes, decimal}
use Rattle.std.proofs.lemmas.Result.{on_ok_weaker}
use Rattle.tile_drill.specs.Made.{name_at, target_of}
use Rattle.tile_requests.proofs.Gluing.{glued, glued_end, glued_first}
use Rattle.tile_drill.proofs.drill_lines.add_target.Goals as goal

pub returns : goal.returns
unfolding target_of
returns c =
    let aim = c.args.aim.now in
    let layer = glued_first _ _ [] (codes "/wmts?service=WMTS&request=GetTile&version=1.0.0&layer=") aim.layer.now.id (rw c.bytes.ensures at c.in_ok-add_pair.ensures) in
    let style = glued _ _ _ (codes "&style=") aim.style.now.id _ layer (rw c.bytes-2.ensures at c.in_ok-add_pair-2.ensures) in
    let grid = glued _ _ _ (codes "&format=image/x-portable-pixmap&TileMatrixSet=") aim.grid.now.id _ style (rw c.bytes-3.ensures at c.in_ok-add_pair-3.ensures) in
    let matrix = glued _ _ _ (codes "&TileMatrix=") (name_at aim.grid.now c.args.z) _ grid (rw c.name_at.ensures at c.in_ok-add_pair-4.ensures) in
    let row = glued _ _ _ (codes "&TileRow=") (decimal c.args.row) _ matrix c.in_ok-add_count.ensures in
    let col = glued _ _ _ (codes "&TileCol=") (decimal c.args.col) _ row c.in_ok-add_count-2.ensures in
    on_ok_weaker c.add_dimensions.result (λ h. glued_end _ _ _ _ _ col h) (rw c.as_slice.ensures at c.add_dimensions.ensures)
