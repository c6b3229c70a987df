use Rattle.std.proofs.Common.{length, not}
use Rattle.kept_areas.specs.Areas.{IsClear}
use Rattle.cabinet.specs.Hits.{hits_of}
use Rattle.cabinet_records.specs.Placed.{place_in}
use Rattle.cabinet_records.proofs.Spares.{IsSparing}
use Rattle.cabinet_records.proofs.replay.sparing.spare.Given as goal

abbrev pub invariant-sparing : goal.invariant-sparing
invariant-sparing l = record {
  sparing : IsSparing (λ m. not (hits_of l.catalogue l.cover m)) l.fn.store.blobs l.store.blobs l.fn.regions l.regions (place_in l.fn.places.entries) (place_in l.places.entries);
  clear : IsClear (hits_of l.catalogue l.cover) l.from l.store.chunks;
}

abbrev pub decreases-sparing : goal.decreases-sparing
decreases-sparing l = length l.store.blobs
