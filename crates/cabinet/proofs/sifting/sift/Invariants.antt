use Rattle.std.proofs.Common.{◌≤◌, length, not}
use Rattle.kept_areas.specs.Areas.{IsClear}
use Rattle.cabinet.specs.Hits.{hits_of}
use Rattle.cabinet.proofs.Sifts.{IsSifting}
use Rattle.cabinet.proofs.sifting.sift.Given as goal

abbrev pub invariant-sifting : goal.invariant-sifting
invariant-sifting l = record {
  sifting : IsSifting (λ m. not (hits_of l.catalogue l.cover m)) l.catalogue l.fn.store.blobs l.store.blobs l.fn.tally.uses l.tally.uses l.tally.extents l.tally.ledger;
  clear : IsClear (hits_of l.catalogue l.cover) l.from l.store.chunks;
  room : l.fn.store.spare ≤ l.store.spare;
  regions : l.fn.tally.extents.spare ≤ l.tally.extents.spare;
  keys : l.fn.tally.uses.spare ≤ l.tally.uses.spare;
}

abbrev pub decreases-sifting : goal.decreases-sifting
decreases-sifting l = length l.store.blobs
