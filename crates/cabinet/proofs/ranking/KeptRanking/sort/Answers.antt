use Rattle.std.proofs.Common.{◌≡◌, ◌++◌, List, IsPermutation, drop, length, take, ap, subst, sym, ◌∙◌}
use Rattle.std.proofs.Math.Seq.{take-append_seam}
use Rattle.std.proofs.lemmas.List.Sorted.{length_permutation}
use Rattle.cabinet.specs.declared.ranking.Ranked.{Ranked}
use Rattle.cabinet.specs.Started.{Listing}
use Rattle.cabinet.specs.Writing.{IsInOrderBy, rank_of}
use Rattle.cabinet.proofs.ranking.KeptRanking.sort.Goals as goal

pub returns-clause-ranked : goal.returns-clause-ranked
returns-clause-ranked c =
    let items = c.self.inside.ranked.items in
    let sorted = c.sort.new.ranked in
    let moved : IsPermutation items sorted = subst (λ (xs : List Ranked). IsPermutation xs sorted) c.as_mut_slice.ensures.value c.sort.ensures.permutation in
    let long : c.self.inside.ranked.len ≡ length sorted = c.self.inside.ranked.ok.0 ∙ sym (length_permutation items sorted moved) in
    let same : take c.self.inside.ranked.len (sorted ++ drop (length sorted) items) ≡ sorted = ap (λ n. take n (sorted ++ drop (length sorted) items)) long ∙ take-append_seam sorted (drop (length sorted) items) in
    subst (λ (v : Listing). IsPermutation v.ranked (take c.self.inside.ranked.len (sorted ++ drop (length sorted) items))) c.self.view_is
    (subst (IsPermutation items) (sym same) moved)

pub returns-clause-sorted : goal.returns-clause-sorted
returns-clause-sorted c =
    let items = c.self.inside.ranked.items in
    let sorted = c.sort.new.ranked in
    let moved : IsPermutation items sorted = subst (λ (xs : List Ranked). IsPermutation xs sorted) c.as_mut_slice.ensures.value c.sort.ensures.permutation in
    let long : c.self.inside.ranked.len ≡ length sorted = c.self.inside.ranked.ok.0 ∙ sym (length_permutation items sorted moved) in
    let same : take c.self.inside.ranked.len (sorted ++ drop (length sorted) items) ≡ sorted = ap (λ n. take n (sorted ++ drop (length sorted) items)) long ∙ take-append_seam sorted (drop (length sorted) items) in
    subst (IsInOrderBy rank_of) (sym same) c.sort.ensures.sorted
