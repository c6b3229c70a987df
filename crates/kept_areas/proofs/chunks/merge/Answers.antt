use Rattle.std.proofs.Common.{◌+◌, ◌-◌, ◌++◌, ◌∷◌, [], ◌∙◌, List, ap, arith, length, set}
use Rattle.std.proofs.lemmas.List.{length-set}
use Rattle.std.proofs.lemmas.List.Edits.{length-remove}
use Rattle.kept_areas.specs.declared.spot.KeptSpot.{KeptSpot}
use Rattle.kept_areas.specs.Areas.{all_spots}
use Rattle.kept_areas.proofs.InChunks.{all_with_free, joined_spots}
use Rattle.kept_areas.proofs.Used.{used_merged}
use Rattle.kept_areas.proofs.chunks.merge.Goals as goal

pub returns-clause-spots : goal.returns-clause-spots
returns-clause-spots c =
    let old = c.args.chunks.now.items in let rest = c.remove-gone.new.self.items in let chunk = c.args.chunk in
    let known = c.requires.known in
    let spots = joined_spots old rest chunk (chunk + 1) c.index_mut.result.now c.remove-gone.result (omega arith) c.remove-gone.ensures.items c.index_mut.ensures.value c.remove-gone.ensures.value known in
    ap all_spots c.stand_behind.ensures
    ∙ ap (λ (ss : List KeptSpot). all_spots (set rest chunk c.append.new.self ++ ss ∷ [])) (c.set_aside.ensures ∙ c.truncate.ensures)
    ∙ all_with_free (set rest chunk c.append.new.self)
    ∙ ap (λ (ss : List KeptSpot). all_spots (set rest chunk ss)) (c.append.ensures ∙ ap (λ (ss : List KeptSpot). c.index_mut.result.now ++ ss) c.spots.ensures)
    ∙ spots

pub returns-clause-first : goal.returns-clause-first
returns-clause-first c =
    let old = c.args.chunks.now.items in let rest = c.remove-gone.new.self.items in let chunk = c.args.chunk in
    let known = c.requires.known in
    let long = ap (λ (sss : List (List KeptSpot)). length sss) c.remove-gone.ensures.items in
    let fewer = length-remove old (chunk + 1) known in
    let same = length-set rest chunk c.append.new.self in
    used_merged (set rest chunk c.append.new.self) c.stand_behind.new.chunks.items (length old - 1) (c.stand_behind.ensures ∙ ap (λ (ss : List KeptSpot). set rest chunk c.append.new.self ++ ss ∷ []) (c.set_aside.ensures ∙ c.truncate.ensures)) (omega arith)
    (omega arith)
