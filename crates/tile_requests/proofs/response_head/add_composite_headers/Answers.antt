use Rattle.std.proofs.Common.{◌++◌, ℕ, List, codes}
use Rattle.tile_requests.specs.Response.{joined}
use Rattle.tile_requests.proofs.Gluing.{glued_end}
use Rattle.tile_requests.proofs.response_head.add_composite_headers.Goals as goal

pub returns-clause-items : goal.returns-clause-items
returns-clause-items c =
    let start : List ℕ = c.args.text.now.items in
    let label : List ℕ = codes "composite-renders: " in
    let numbers : List ℕ = joined c.args.numbers.now in
    let told = glued_end start _ _ label numbers c.add.ensures.items c.add_joined.ensures.items in
    glued_end start _ _ (label ++ numbers) (codes "\r\n") told c.add-2.ensures.items
