use Rattle.std.proofs.Common.{not, length, ap, arith}
use Rattle.cabinet.specs.Hits.{hits_of}
use Rattle.cabinet.specs.Shelved.{listed}
use Rattle.cabinet.proofs.Indexed.{goes_fewer}
use Rattle.cabinet.proofs.OnShelf.{some_blob}
use Rattle.cabinet.proofs.Sifts.{none_goes}
use Rattle.cabinet_records.specs.Placed.{place_in}
use Rattle.cabinet_records.proofs.Spares.{one_goes, spared_list, sparing_start}
use Rattle.cabinet_records.proofs.Tied.{region_taken}
use Rattle.cabinet_records.proofs.replay.sparing.spare.Goals as goal

pub sparing-init : goal.sparing-init
sparing-init c = record { sparing = sparing_start (λ m. not (hits_of c.args.catalogue.now c.args.cover.now m)) c.args.store.now.blobs c.args.regions.now (place_in c.args.places.now.entries); clear = tt }

pub give-requires : goal.give-requires
give-requires c =
    let t = c.in-Some.hit.kept in
    let next = c.requires.tied.0 in
    record { taken = region_taken next (listed c.sparing.store.blobs) c.sparing.regions (place_in c.sparing.places.entries) t.meta t (c.sparing.invariant.sparing.tied next c.requires.tied.1) c.in-Some.ensures.kept }

pub sparing-smaller : goal.sparing-smaller
sparing-smaller c =
    let t = c.in-Some.hit.kept in
    let here = c.sparing.store.blobs in
    omega (arith, goes_fewer t.meta here (some_blob t.meta here t c.in-Some.ensures.kept), ap length c.drop_of.ensures.blobs)

pub sparing-preserved : goal.sparing-preserved
sparing-preserved c =
    let e = c.in-Some.ensures in
    let s = c.sparing.invariant in
    let cat = c.args.catalogue.now in
    let cover = c.args.cover.now in
    record {
      sparing = one_goes (λ m. not (hits_of cat cover m)) c.args.store.now.blobs c.sparing.store.blobs c.args.regions.now c.sparing.regions (place_in c.args.places.now.entries) (place_in c.sparing.places.entries) s.sparing c.in-Some.hit.kept
          c.give.new.self (place_in c.drop_place.new.places.entries) c.drop_of.new.self.blobs (ap not e.hit) e.kept c.give.ensures.sound c.give.ensures.given c.drop_place.ensures.places c.drop_of.ensures.blobs;
      clear = c.drop_of.ensures.clear (hits_of cat cover) c.in-Some.hit.at (e.clear s.clear);
    }

pub returns-in-None-clause-spared : goal.returns-in-None-clause-spared
returns-in-None-clause-spared c =
    let cat = c.args.catalogue.now in
    let cover = c.args.cover.now in
    let s = c.sparing.invariant in
    spared_list (λ m. not (hits_of cat cover m)) c.args.store.now.blobs c.sparing.store.blobs c.args.regions.now c.sparing.regions (place_in c.args.places.now.entries) (place_in c.sparing.places.entries) s.sparing
    (none_goes cat cover c.sparing.store.blobs (c.in-None.ensures.none s.clear))
