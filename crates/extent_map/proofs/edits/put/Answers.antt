use Rattle.std.proofs.Common.{◌∙◌, List, ap, set, subst, sym}
use Rattle.std.specs.List.{insert}
use Rattle.extent_map.specs.declared.part.Extent.{Extent}
use Rattle.extent_map.specs.Parts.{LieInOrder}
use Rattle.extent_map.specs.Chunks.{all_parts}
use Rattle.extent_map.proofs.InChunks.{entered_order, entered_parts, written_order}
use Rattle.extent_map.proofs.Used.{used_set}
use Rattle.extent_map.proofs.edits.put.Goals as goal

pub enter-requires-clause-ordered : goal.enter-requires-clause-ordered
enter-requires-clause-ordered c =
    let chunks = c.args.chunks.now.items in let chunk = c.args.spot.chunk in let index = c.args.spot.index in
    written_order chunks c.args.size chunk (insert c.index_mut.result.now index c.args.part) c.requires.fits.spot.known
    (subst (λ (ps : List Extent). LieInOrder 0 ps c.args.size) (sym (entered_parts chunks chunk index c.index_mut.result.now c.args.part c.index_mut.ensures.value c.requires.fits.spot.known))
    (entered_order chunks c.args.size chunk index c.args.part c.requires.fits.before c.requires.fits.behind c.requires.some))

pub returns-clause-parts : goal.returns-clause-parts
returns-clause-parts c =
    let chunks = c.args.chunks.now.items in let chunk = c.args.spot.chunk in let index = c.args.spot.index in
    ap (λ (ps : List Extent). all_parts (set chunks chunk ps)) c.enter.ensures ∙ entered_parts chunks chunk index c.index_mut.result.now c.args.part c.index_mut.ensures.value c.requires.fits.spot.known

pub returns-clause-first : goal.returns-clause-first
returns-clause-first c = λ used l u. used_set c.args.chunks.now.items used c.args.spot.chunk c.enter.new.self l u
