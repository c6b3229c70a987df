use Rattle.std.proofs.Common.{◌≡◌, ◌∙◌, ◌++◌, [], List, ap, arith, length, sym}
use Rattle.std.proofs.lemmas.List.{append-nil, get_or_default}
use Rattle.extent_map.specs.declared.part.Extent.{Extent}
use Rattle.extent_map.specs.Chunks.{parts_before, parts_behind}
use Rattle.extent_map.proofs.InChunks.{around, behind_last}
use Rattle.extent_map.proofs.chunks.end_spot.Goals as goal

none_behind : (c : goal.After-len) → parts_behind c.args.chunks.now c.last_used-chunk.result c.len.result ≡ []
none_behind c =
    let read = ap (λ (ps : List Extent). length ps) (c.index-chunks-chunk.is ∙ get_or_default c.args.chunks.now c.last_used-chunk.result c.index-chunks-chunk.result [] c.last_used-chunk.ensures.known) in
    let long = c.len.ensures.len in
    behind_last c.args.chunks.now c.last_used-chunk.result c.len.result (omega arith) c.last_used-chunk.ensures.others

pub returns-clause-before : goal.returns-clause-before
returns-clause-before c =
    let before = parts_before c.args.chunks.now c.last_used-chunk.result c.len.result in
    sym (around c.args.chunks.now c.last_used-chunk.result c.len.result ∙ ap (λ (ps : List Extent). before ++ ps) (none_behind c) ∙ append-nil before)

pub returns-clause-behind : goal.returns-clause-behind
returns-clause-behind c = none_behind c
