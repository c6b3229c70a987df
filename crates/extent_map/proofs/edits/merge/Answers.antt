use Rattle.std.proofs.Common.{◌+◌, ◌-◌, ◌++◌, ◌∷◌, [], ◌∙◌, List, ap, arith, length, set, subst, sym}
use Rattle.std.proofs.lemmas.List.{length-set}
use Rattle.std.proofs.lemmas.List.Edits.{length-remove}
use Rattle.extent_map.specs.declared.part.Extent.{Extent}
use Rattle.extent_map.specs.Parts.{LieInOrder}
use Rattle.extent_map.specs.Chunks.{all_parts}
use Rattle.extent_map.proofs.InChunks.{all_with_free, joined_parts, written_order}
use Rattle.extent_map.proofs.Used.{used_merged}
use Rattle.extent_map.proofs.edits.merge.Goals as goal

pub append-requires-clause-ordered : goal.append-requires-clause-ordered
append-requires-clause-ordered c =
    let old = c.args.chunks.now.items in let rest = c.remove-gone.new.self.items in let chunk = c.args.chunk in
    let known = c.requires.known in
    let long = ap (λ (pss : List (List Extent)). length pss) c.remove-gone.ensures.items in
    let fewer = length-remove old (chunk + 1) known in
    let parts = joined_parts old rest chunk (chunk + 1) c.index_mut.result.now c.remove-gone.result (omega arith) c.remove-gone.ensures.items c.index_mut.ensures.value c.remove-gone.ensures.value known in
    subst (λ (ps : List Extent). LieInOrder 0 (c.index_mut.result.now ++ ps) c.args.size) (sym c.parts.ensures)
    (written_order rest c.args.size chunk (c.index_mut.result.now ++ c.remove-gone.result) (omega arith) (subst (λ (ps : List Extent). LieInOrder 0 ps c.args.size) (sym parts) c.requires.ordered))

pub returns-clause-parts : goal.returns-clause-parts
returns-clause-parts c =
    let old = c.args.chunks.now.items in let rest = c.remove-gone.new.self.items in let chunk = c.args.chunk in
    let known = c.requires.known in
    let parts = joined_parts old rest chunk (chunk + 1) c.index_mut.result.now c.remove-gone.result (omega arith) c.remove-gone.ensures.items c.index_mut.ensures.value c.remove-gone.ensures.value known in
    ap all_parts c.stand_behind.ensures
    ∙ ap (λ (ps : List Extent). all_parts (set rest chunk c.append.new.self ++ ps ∷ [])) c.truncate.ensures
    ∙ all_with_free (set rest chunk c.append.new.self)
    ∙ ap (λ (ps : List Extent). all_parts (set rest chunk ps)) (c.append.ensures ∙ ap (λ (ps : List Extent). c.index_mut.result.now ++ ps) c.parts.ensures)
    ∙ parts

pub returns-clause-first : goal.returns-clause-first
returns-clause-first c =
    let old = c.args.chunks.now.items in let rest = c.remove-gone.new.self.items in let chunk = c.args.chunk in
    let known = c.requires.known in
    let long = ap (λ (pss : List (List Extent)). length pss) c.remove-gone.ensures.items in
    let fewer = length-remove old (chunk + 1) known in
    let same = length-set rest chunk c.append.new.self in
    used_merged (set rest chunk c.append.new.self) c.stand_behind.new.chunks.items (length old - 1) (c.stand_behind.ensures ∙ ap (λ (ps : List Extent). set rest chunk c.append.new.self ++ ps ∷ []) c.truncate.ensures) (omega arith) (omega arith)
