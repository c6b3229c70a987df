use Rattle.std.proofs.Common.{◌≡◌, ◌<◌, ℕ, ◌+◌, ◌++◌, ◌∷◌, [], ◌∙◌, List, ap, arith, drop, get_or, length, set, take}
use Rattle.std.specs.List.{insert}
use Rattle.std.proofs.lemmas.List.{get_or_default, length-drop, length_push}
use Rattle.kept_areas.specs.declared.spot.KeptSpot.{KeptSpot}
use Rattle.kept_areas.specs.Kept.{chunk_at}
use Rattle.kept_areas.proofs.InChunks.{IsDivided, at_with_free, divided}
use Rattle.kept_areas.proofs.Used.{popped, used_divided}
use Rattle.kept_areas.proofs.chunks.divide.Goals as goal

known : (old sss : List (List KeptSpot)) (chunk used : ℕ) → old ≡ sss ++ [] ∷ [] → chunk < used → used < length old → chunk < length sss
known old sss chunk used e l m = let long = ap (λ (qss : List (List KeptSpot)). length qss) e ∙ length_push sss [] in omega arith

pub append-requires : goal.append-requires
append-requires c =
    let sss = c.pop.new.self.items in let chunk = c.args.chunk in let kept = c.args.kept in let read = c.index.result.now in
    let f = popped c.args.chunks.now.items sss c.pop.result c.unwrap-fresh.result c.args.used c.pop.ensures.items c.unwrap-fresh.ensures c.requires.free c.requires.first in
    let l = known c.args.chunks.now.items sss chunk c.args.used f.1 c.requires.known c.requires.free in
    let none = ap (λ (zs : List KeptSpot). length zs) (c.begin_at.ensures ∙ f.0) in
    let whole = ap (λ (zs : List KeptSpot). length zs) (c.spots.ensures ∙ c.index.ensures) in
    let behind = ap (λ (zs : List KeptSpot). length zs) c.split_at.ensures.back ∙ length-drop kept c.spots.result.now in
    let long = ap (λ (zs : List KeptSpot). length zs) (ap (λ (qss : List (List KeptSpot)). chunk_at qss chunk) f.1 ∙ at_with_free sss chunk read l) in
    let most = c.requires.most in
    record { room = omega arith }

divides : (c : goal.After-stand) → IsDivided c.args.chunks.now.items c.args.chunk c.args.kept c.stand.new.chunks.items
divides c =
    let sss = c.pop.new.self.items in let chunk = c.args.chunk in let kept = c.args.kept in let read = c.index.result.now in
    let f = popped c.args.chunks.now.items sss c.pop.result c.unwrap-fresh.result c.args.used c.pop.ensures.items c.unwrap-fresh.ensures c.requires.free c.requires.first in
    let l = known c.args.chunks.now.items sss chunk c.args.used f.1 c.requires.known c.requires.free in
    let front : c.truncate.new.self ≡ take kept (get_or sss chunk read) = c.truncate.ensures ∙ ap (take kept) (c.index_mut.ensures.value ∙ get_or_default sss chunk c.index_mut.result.now read l) in
    let back : c.append.new.self ≡ drop kept (get_or sss chunk read) =
    c.append.ensures ∙ ap (λ (ss : List KeptSpot). ss ++ c.split_at.result.1.now) (c.begin_at.ensures ∙ f.0) ∙ c.split_at.ensures.back ∙ ap (drop kept) (c.spots.ensures ∙ c.index.ensures) in
    let long = ap (λ (ss : List KeptSpot). length ss) (ap (λ (qss : List (List KeptSpot)). chunk_at qss chunk) f.1 ∙ at_with_free sss chunk read l) in
    let within = c.requires.within in
    divided sss c.args.chunks.now.items c.stand.new.chunks.items chunk (chunk + 1) kept read f.1 (omega arith)
    (c.stand.ensures ∙ ap (λ (ss : List KeptSpot). insert (set sss chunk ss) (chunk + 1) c.append.new.self) front ∙ ap (λ (ss : List KeptSpot). insert (set sss chunk (take kept (get_or sss chunk read))) (chunk + 1) ss) back)
    l (omega arith)

pub returns-clause-spots : goal.returns-clause-spots
returns-clause-spots c = (divides c).spots

pub returns-clause-len : goal.returns-clause-len
returns-clause-len c = (divides c).len

pub returns-clause-known : goal.returns-clause-known
returns-clause-known c = (divides c).known

pub returns-clause-left : goal.returns-clause-left
returns-clause-left c = (divides c).left

pub returns-clause-right : goal.returns-clause-right
returns-clause-right c = (divides c).right

pub returns-clause-first : goal.returns-clause-first
returns-clause-first c =
    let sss = c.pop.new.self.items in
    let f = popped c.args.chunks.now.items sss c.pop.result c.unwrap-fresh.result c.args.used c.pop.ensures.items c.unwrap-fresh.ensures c.requires.free c.requires.first in
    used_divided sss c.args.chunks.now.items c.stand.new.chunks.items c.args.chunk (c.args.chunk + 1) c.args.used c.truncate.new.self c.append.new.self f.1 (omega arith) c.stand.ensures c.requires.known c.requires.free c.requires.first
