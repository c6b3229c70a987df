use Rattle.std.proofs.Common.{[], codes, decimal}
use Rattle.tile_drill.specs.Drill.{counts_text}
use Rattle.tile_service.specs.CacheTally.{total}
use Rattle.tile_requests.proofs.Gluing.{glued, glued_end, glued_first}
use Rattle.tile_drill.proofs.summary.counts_text.Goals as goal

pub returns-clause-items : goal.returns-clause-items
unfolding counts_text
returns-clause-items c =
    let t = c.args.tally.now in
    let first = glued_first [] _ [] (codes "drill ") (decimal c.args.number) (rw (c.new-text.ensures, c.from.ensures) at c.add_count.ensures.items) in
    let answers = glued [] _ _ (codes " lines 4096 answers ") (decimal (total t)) _ first (rw c.total.ensures at c.add_count-2.ensures.items) in
    let hits = glued [] _ _ (codes " hits ") (decimal t.hits) _ answers c.add_count-3.ensures.items in
    let misses = glued [] _ _ (codes " misses ") (decimal t.misses) _ hits c.add_count-4.ensures.items in
    let others = glued [] _ _ (codes " other ") (decimal t.others) _ misses c.add_count-5.ensures.items in
    glued_end [] _ _ _ (codes "\n") others c.add.ensures.items
