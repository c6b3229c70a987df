use Rattle.std.proofs.Common.{IsPermutation, List, map, subst, sym, ◌∙◌, ap}
use Rattle.std.proofs.lemmas.List.Sorted.{IsPermutation-map, IsPermutation-sym, IsPermutation-trans}
use Rattle.expiry_policy.specs.Victims.{use_of}
use Rattle.cabinet.specs.declared.kept.Kept.{Kept}
use Rattle.cabinet.specs.declared.kept.KeptBlob.{KeptBlob}
use Rattle.cabinet.specs.declared.ranking.Ranked.{Ranked}
use Rattle.cabinet.specs.Shelved.{Shelved, UsesByKey, listed}
use Rattle.cabinet.specs.Writing.{IsInOrderBy, rank_of, rank_on, ranked_by}
use Rattle.cabinet.proofs.Writing.{kept_of_ranked, shelf_order}
use Rattle.cabinet.proofs.shelf.KeptShelf.list_kept.Goals as goal

pub returns-clause-all : goal.returns-clause-all
returns-clause-all c =
    let store = c.self.inside.store in
    let sort = c.sort.ensures in
    let uses : UsesByKey = λ m. use_of c.self.inside.tally.uses m in
    let held : IsPermutation (listed store.blobs) (listed store.held) = IsPermutation-map (λ (b : KeptBlob). b.kept) store.blobs store.held c.count-count.ensures.order in
    let moved = IsPermutation-map (λ (x : Ranked). x.kept) c.rank.new.list.ranked c.sort.new.self.ranked sort.ranked in
    let from = ap (map (λ (x : Ranked). x.kept)) c.rank.ensures.ranked ∙ kept_of_ranked uses (listed store.held) in
    let sorted : IsPermutation (listed store.held) c.sort.new.self.kept =
    subst (λ (xs : List Kept). IsPermutation (listed store.held) xs) (sym sort.kept) (subst (λ (xs : List Kept). IsPermutation xs (map (λ (x : Ranked). x.kept) c.sort.new.self.ranked)) from moved) in
    subst (λ (v : Shelved). IsPermutation c.sort.new.self.kept (listed v.blobs)) c.self.view_is
    (IsPermutation-sym (listed store.blobs) c.sort.new.self.kept (IsPermutation-trans (listed store.blobs) (listed store.held) c.sort.new.self.kept held sorted))

pub returns-clause-order : goal.returns-clause-order
returns-clause-order c =
    let store = c.self.inside.store in
    let sort = c.sort.ensures in
    let uses : UsesByKey = λ m. use_of c.self.inside.tally.uses m in
    subst (λ (v : Shelved). IsInOrderBy (rank_on v) c.sort.new.self.kept) c.self.view_is
    (subst (λ (ts : List Kept). IsInOrderBy (λ t. rank_of (ranked_by uses t)) ts) (sym sort.kept) (shelf_order uses (listed store.held) c.rank.new.list.ranked c.sort.new.self.ranked c.rank.ensures.ranked sort.ranked sort.sorted))
