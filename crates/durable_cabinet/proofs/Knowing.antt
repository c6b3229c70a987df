-- What is known of a core is known of its cabinet on a disk.
use Rattle.std.proofs.Common.{◌≡◌, ◌+◌, Bool, true, false, List, [], ◌∷◌, map, refl}
use Rattle.std.specs.List.{AllByRecursion}
use Rattle.disk_model.specs.Content.{Content}
use Rattle.disk_model.proofs.Reading.{length-bytes_at}
use Rattle.catalog.specs.declared.catalogue.Catalogue.{Catalogue}
use Rattle.cabinet.specs.declared.kept.Kept.{Kept}
use Rattle.cabinet.specs.Fresh.{IsOfLength}
use Rattle.cabinet.specs.State.{IsKnown, IsLong, State, now}
use Rattle.cabinet.proofs.Limits.{lengths_are}
use Rattle.durable_cabinet.specs.Filed.{on_disk}
use Rattle.durable_cabinet.specs.Images.{blob_on, blobs_start}

kept_of_blobs : (c : Catalogue) (seen : Content) (ts : List Kept) → map (λ b. b.kept) (map (blob_on c seen) ts) ≡ ts
kept_of_blobs c seen [] = refl
kept_of_blobs c seen (t ∷ ts) = λ k. t ∷ kept_of_blobs c seen ts k

blobs_long : (c : Catalogue) (seen : Content) (ts : List Kept) → AllByRecursion (IsOfLength c) ts → AllByRecursion (IsLong c) (map (blob_on c seen) ts)
blobs_long c seen [] a = tt
blobs_long c seen (t ∷ ts) a = ((length-bytes_at seen (blobs_start c + t.place) t.length, a.0), blobs_long c seen ts a.1)

pub known_on : (told : Bool) (seen : Content) (s : State) → IsKnown s → IsKnown (on_disk told seen s)
known_on true seen s k = record {
  valid = k.valid;
  number = k.number;
  whole = k.whole;
  possible = k.possible;
  blobs = kept_of_blobs s.catalogue seen (now s).kept;
  lengths = blobs_long s.catalogue seen (now s).kept (lengths_are s.catalogue s.opening s.since k.possible);
  left = k.left;
}
known_on false seen s k = record { valid = k.valid; number = k.number; whole = k.whole; possible = k.possible; blobs = tt; lengths = tt; left = k.left }
