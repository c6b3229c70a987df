use Rattle.std.proofs.Common.{◌++◌, ℕ, List, codes, decimal}
use Rattle.tile_requests.specs.Response.{cache_result}
use Rattle.tile_requests.proofs.Gluing.{glued_end}
use Rattle.tile_requests.proofs.response_head.add_tile_headers.Goals as goal

pub returns-clause-items : goal.returns-clause-items
returns-clause-items c =
    let start : List ℕ = c.args.text.now.items in
    let first : List ℕ = codes "geowebcache-cache-result: " in
    let second : List ℕ = first ++ cache_result c.args.hit in
    let third : List ℕ = second ++ codes "\r\ntile-render: " in
    let fourth : List ℕ = third ++ decimal c.args.number in
    let told = glued_end start _ _ first (cache_result c.args.hit) c.add.ensures.items (rw c.cache_result.ensures.text at c.add-2.ensures.items) in
    let label = glued_end start _ _ second (codes "\r\ntile-render: ") told c.add-3.ensures.items in
    let number = glued_end start _ _ third (decimal c.args.number) label c.add_number.ensures.items in
    glued_end start _ _ fourth (codes "\r\n") number c.add-4.ensures.items
