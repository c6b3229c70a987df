-- A content is the file of a cabinet where it opens to what that cabinet keeps and has its blobs.
use Rattle.std.proofs.Common.{◌+◌, ◌≤◌, List, [], ◌∷◌, length, map, subst, arith}
use Rattle.std.specs.List.{AllByRecursion}
use Rattle.std.specs.List.Sorted.{IsPermutation}
use Rattle.std.proofs.lemmas.List.Sorted.{IsPermutation-sym}
use Rattle.catalog.specs.declared.catalogue.Catalogue.{Catalogue}
use Rattle.disk_model.specs.Content.{Content}
use Rattle.disk_model.proofs.Reading.{length-bytes_at}
use Rattle.cabinet.specs.declared.kept.Kept.{Kept}
use Rattle.cabinet.specs.State.{IsKnown, State, now}
use Rattle.cabinet.proofs.Disjoint.{regions_are}
use Rattle.cabinet_records.specs.Replay.{Replayed}
use Rattle.cabinet_records.proofs.RecordedOrders.{permuted_all}
use Rattle.durable_cabinet.specs.Images.{HasIn, IsOurs, OpensTo, blob_on, blobs_start}
use Rattle.durable_cabinet.proofs.Once.{opens_once}

-- THE REGIONS end within it

module _ (c : Catalogue) (seen image : Content) where
  abbrev EndsWithin : Kept → Type 0
  EndsWithin t = blobs_start c + t.place + t.length ≤ length image

  within_one : (t : Kept) → 1 ≤ t.length → HasIn c image (blob_on c seen t) → EndsWithin t
  within_one t some has =
      let long = length-bytes_at seen (blobs_start c + t.place) t.length in
      let ends = has.within (omega (arith, long, some)) in
      omega (arith, ends, long)

  within_all : (ts : List Kept) → AllByRecursion (λ t. 1 ≤ t.length) ts → AllByRecursion (HasIn c image) (map (blob_on c seen) ts) → AllByRecursion EndsWithin ts
  within_all [] some has = tt
  within_all (t ∷ ts) some has = (within_one t some.0 has.0, within_all ts some.1 has.1)

  pub each_has : (ts : List Kept) → AllByRecursion (HasIn c image) (map (blob_on c seen) ts) → AllByRecursion (λ t. HasIn c image (blob_on c seen t)) ts
  each_has [] has = tt
  each_has (t ∷ ts) has = (has.0, each_has ts has.1)

pub ours_of : (s : State) → IsKnown s → (seen image : Content) (r : Replayed) → OpensTo s.catalogue image r → IsPermutation r.kept (now s).kept → AllByRecursion (HasIn s.catalogue image) (map (blob_on s.catalogue seen) (now s).kept)
    → blobs_start s.catalogue ≤ length image → IsOurs s.catalogue image
ours_of s known seen image r opens order has whole t o =
    let c = s.catalogue in
    let have = regions_are c s.opening s.since known.valid known.possible in
    let all = permuted_all (EndsWithin c seen image) (now s).kept r.kept (IsPermutation-sym r.kept (now s).kept order) (within_all c seen image (now s).kept have.some has) in
    (whole, subst (λ (x : Replayed). AllByRecursion (EndsWithin c seen image) x.kept) (opens_once c image r t opens o) all)
