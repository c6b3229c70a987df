use Rattle.std.proofs.Common.{◌∙◌, List, ap, set, subst, sym}
use Rattle.std.specs.List.{remove}
use Rattle.extent_map.specs.declared.part.Extent.{Extent}
use Rattle.extent_map.specs.Parts.{LieInOrder}
use Rattle.extent_map.specs.Chunks.{all_parts}
use Rattle.extent_map.proofs.InChunks.{taken_order, taken_parts, written_order}
use Rattle.extent_map.proofs.Used.{used_set}
use Rattle.extent_map.proofs.edits.leave.Goals as goal

pub leave-requires-clause-ordered : goal.leave-requires-clause-ordered
leave-requires-clause-ordered c =
    let chunks = c.args.chunks.now.items in let chunk = c.args.spot.chunk in let index = c.args.spot.index in
    written_order chunks c.args.size chunk (remove c.index_mut.result.now index) c.requires.known
    (subst (λ (ps : List Extent). LieInOrder 0 ps c.args.size) (sym (taken_parts chunks chunk index c.index_mut.result.now c.index_mut.ensures.value c.requires.known))
    (taken_order chunks c.args.size chunk index c.requires.known c.requires.within c.requires.ordered))

pub returns-clause-parts : goal.returns-clause-parts
returns-clause-parts c =
    let chunks = c.args.chunks.now.items in let chunk = c.args.spot.chunk in let index = c.args.spot.index in
    ap (λ (ps : List Extent). all_parts (set chunks chunk ps)) c.leave.ensures ∙ taken_parts chunks chunk index c.index_mut.result.now c.index_mut.ensures.value c.requires.known

pub returns-clause-first : goal.returns-clause-first
returns-clause-first c = λ used l u. used_set c.args.chunks.now.items used c.args.spot.chunk c.leave.new.self l u
