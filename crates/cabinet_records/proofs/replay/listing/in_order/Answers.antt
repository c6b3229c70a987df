use Rattle.std.proofs.Common.{◌≡◌, List, IsPermutation, length, take, drop, ◌++◌, sym, ap, subst, ◌∙◌}
use Rattle.std.proofs.Math.Seq.{take-append_seam}
use Rattle.std.proofs.lemmas.List.Sorted.{IsPermutation-map, IsPermutation-trans, length_permutation}
use Rattle.cabinet.specs.declared.kept.Kept.{Kept}
use Rattle.cabinet.specs.declared.kept.KeptBlob.{KeptBlob}
use Rattle.cabinet_records.specs.Placed.{place_at, place_in}
use Rattle.cabinet.specs.Shelved.{listed}
use Rattle.cabinet_records.proofs.Ranked.{same_order}
use Rattle.cabinet_records.proofs.replay.listing.in_order.Goals as goal

pub returns : goal.returns
returns c =
    let sorted = c.sort.new.out in
    let items = c.list.new.out.items in
    let s = c.args.store.now in
    let moved : IsPermutation items sorted = subst (λ (xs : List Kept). IsPermutation xs sorted) c.as_mut_slice.ensures.value c.sort.ensures.permutation in
    let long : c.list.new.out.len ≡ length sorted = c.list.new.out.ok.0 ∙ sym (length_permutation items sorted moved) in
    let listed_held : IsPermutation (listed s.blobs) (listed s.held) = IsPermutation-map (λ (b : KeptBlob). b.kept) s.blobs s.held c.count-count.ensures.order in
    let held_sorted : IsPermutation (listed s.held) sorted = subst (λ (xs : List Kept). IsPermutation xs sorted) c.list.ensures moved in
    ap (λ n. take n (sorted ++ drop (length sorted) items)) long
    ∙ take-append_seam sorted (drop (length sorted) items)
    ∙ same_order (place_at (place_in c.args.places.now.entries)) sorted (listed s.blobs) (IsPermutation-trans (listed s.blobs) (listed s.held) sorted listed_held held_sorted) c.sort.ensures.sorted c.requires.placed.1.rising
