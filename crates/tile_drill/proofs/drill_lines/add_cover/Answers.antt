use Rattle.std.proofs.Common.{[], codes, decimal}
use Rattle.tile_drill.specs.Made.{cover_text}
use Rattle.tile_requests.proofs.Gluing.{glued, glued_end, glued_first}
use Rattle.tile_drill.proofs.drill_lines.add_cover.Goals as goal

pub returns : goal.returns
unfolding cover_text
returns c =
    let aim = c.args.aim.now in
    let layer = glued_first _ _ [] (codes "{\"layer\":\"") aim.layer.now.id (rw c.bytes.ensures at c.in_ok-add_pair.ensures) in
    let grid = glued _ _ _ (codes "\",\"grid\":\"") aim.grid.now.id _ layer (rw c.bytes-2.ensures at c.in_ok-add_pair-2.ensures) in
    let start = glued _ _ _ (codes "\",\"zoomStart\":") (decimal c.args.z) _ grid c.in_ok-add_count.ensures in
    let stop = glued _ _ _ (codes ",\"zoomStop\":") (decimal c.args.z) _ start c.in_ok-add_count-2.ensures in
    glued_end _ _ _ _ (codes "}") stop c.in_ok-extend_from_slice.ensures.items
