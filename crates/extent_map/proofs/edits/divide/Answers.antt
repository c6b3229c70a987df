use Rattle.std.proofs.Common.{◌≡◌, ◌<◌, ℕ, ◌+◌, ◌++◌, ◌∷◌, [], ◌∙◌, List, ap, arith, drop, get_or, length, set, subst, sym, take}
use Rattle.std.specs.List.{insert}
use Rattle.std.proofs.lemmas.List.{get_or_default, length-drop, length_push}
use Rattle.extent_map.specs.declared.part.Extent.{Extent}
use Rattle.extent_map.specs.Parts.{LieInOrder}
use Rattle.extent_map.specs.Chunks.{all_parts, chunk_at}
use Rattle.extent_map.proofs.InChunks.{all_with_free, chunk_order}
use Rattle.extent_map.proofs.Divided.{at_with_free, divided, popped}
use Rattle.extent_map.proofs.Used.{used_divided}
use Rattle.extent_map.proofs.Spots.{order_drop, order_take}
use Rattle.extent_map.proofs.edits.divide.Goals as goal

fresh : (c : goal.After-fresh-1) → (c.unwrap-fresh.result ≡ []) × (c.args.chunks.now.items ≡ c.pop.new.self.items ++ [] ∷ [])
fresh c = popped c.args.chunks.now.items c.pop.new.self.items c.pop.result c.unwrap-fresh.result c.args.used c.pop.ensures.items c.unwrap-fresh.ensures c.requires.free c.requires.first

known : (old pss : List (List Extent)) (chunk used : ℕ) → old ≡ pss ++ [] ∷ [] → chunk < used → used < length old → chunk < length pss
known old pss chunk used e l m = let long = ap (λ (qss : List (List Extent)). length qss) e ∙ length_push pss [] in omega arith

-- the parts of the chunk, as it is read again, lie in order
own_order : (old pss : List (List Extent)) (size chunk : ℕ) (read : List Extent) → old ≡ pss ++ [] ∷ [] → chunk < length pss → read ≡ get_or pss chunk read → LieInOrder 0 (all_parts old) size → LieInOrder 0 read size
own_order old pss size chunk read e l is h =
    subst (λ (ps : List Extent). LieInOrder 0 ps size) (sym is) (chunk_order 0 pss size chunk read l (subst (λ (ps : List Extent). LieInOrder 0 ps size) (ap all_parts e ∙ all_with_free pss) h))

pub append-requires-clause-room : goal.append-requires-clause-room
append-requires-clause-room c =
    let f = fresh c in
    let pss = c.pop.new.self.items in let chunk = c.args.chunk in let kept = c.args.kept in let read = c.index.result.now in
    let l = known c.args.chunks.now.items pss chunk c.args.used f.1 c.requires.known c.requires.free in
    let none = ap (λ (ps : List Extent). length ps) f.0 in
    let behind = ap (λ (ps : List Extent). length ps) (c.split_at.ensures.back ∙ ap (drop kept) (c.parts.ensures ∙ c.index.ensures)) in
    let own = ap (λ (ps : List Extent). length ps) (ap (λ (qss : List (List Extent)). chunk_at qss chunk) f.1 ∙ at_with_free pss chunk read l) in
    let fewer = length-drop kept (get_or pss chunk read) in
    let most = c.requires.most in
    omega (arith, none, behind, own, fewer, most)

pub append-requires-clause-ordered : goal.append-requires-clause-ordered
append-requires-clause-ordered c =
    let f = fresh c in
    let behind = c.split_at.ensures.back ∙ ap (drop c.args.kept) c.parts.ensures in
    let own = own_order c.args.chunks.now.items c.pop.new.self.items c.args.size c.args.chunk c.index.result.now f.1 (known c.args.chunks.now.items c.pop.new.self.items c.args.chunk c.args.used f.1 c.requires.known c.requires.free) c.index.ensures c.requires.ordered in
    subst (λ (ps : List Extent). LieInOrder 0 ps c.args.size) (sym (ap (λ (ps : List Extent). ps ++ c.split_at.result.1.now) f.0 ∙ behind)) (order_drop c.args.kept c.index.result.now c.args.size own)

pub truncate-requires : goal.truncate-requires
truncate-requires c =
    let f = popped c.args.chunks.now.items c.pop.new.self.items c.pop.result c.unwrap-fresh.result c.args.used c.pop.ensures.items c.unwrap-fresh.ensures c.requires.free c.requires.first in
    record { ordered = order_take c.args.kept c.index_mut.result.now c.args.size (own_order c.args.chunks.now.items c.pop.new.self.items c.args.size c.args.chunk c.index_mut.result.now f.1 (known c.args.chunks.now.items c.pop.new.self.items c.args.chunk c.args.used f.1 c.requires.known c.requires.free) c.index_mut.ensures.value c.requires.ordered) }

pub returns : goal.returns
returns c =
    let pss = c.pop.new.self.items in let chunk = c.args.chunk in let kept = c.args.kept in let read = c.index.result.now in
    let f = popped c.args.chunks.now.items pss c.pop.result c.unwrap-fresh.result c.args.used c.pop.ensures.items c.unwrap-fresh.ensures c.requires.free c.requires.first in
    let l = known c.args.chunks.now.items pss chunk c.args.used f.1 c.requires.known c.requires.free in
    let front : c.truncate.new.self ≡ take kept (get_or pss chunk read) = c.truncate.ensures ∙ ap (take kept) (c.index_mut.ensures.value ∙ get_or_default pss chunk c.index_mut.result.now read l) in
    let back : c.append.new.self ≡ drop kept (get_or pss chunk read) =
    c.append.ensures ∙ ap (λ (ps : List Extent). ps ++ c.split_at.result.1.now) f.0 ∙ c.split_at.ensures.back ∙ ap (drop kept) (c.parts.ensures ∙ c.index.ensures) in
    let long = ap (λ (ps : List Extent). length ps) (ap (λ (qss : List (List Extent)). chunk_at qss chunk) f.1 ∙ at_with_free pss chunk read l) in
    let within = c.requires.within in
    let made = divided pss c.args.chunks.now.items c.stand.new.chunks.items chunk (chunk + 1) kept read f.1 (omega arith)
    (c.stand.ensures ∙ ap (λ (ps : List Extent). insert (set pss chunk ps) (chunk + 1) c.append.new.self) front ∙ ap (λ (ps : List Extent). insert (set pss chunk (take kept (get_or pss chunk read))) (chunk + 1) ps) back)
    l (omega arith) in
    record {
      divided = made;
      first = used_divided pss c.args.chunks.now.items c.stand.new.chunks.items chunk (chunk + 1) c.args.used c.truncate.new.self c.append.new.self f.1 (omega arith) c.stand.ensures made.len c.requires.known c.requires.free c.requires.first;
    }
