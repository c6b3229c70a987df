use Rattle.std.proofs.Common.{not, Some, length, ap, sym, ◌∙◌, arith}
use Rattle.expiry_policy.specs.Victims.{use_of}
use Rattle.cabinet.specs.Hits.{hits_of}
use Rattle.cabinet.proofs.Indexed.{goes_fewer}
use Rattle.cabinet.proofs.OnShelf.{goes_held, older_in, region_taken, some_blob, turned}
use Rattle.cabinet.proofs.Sifts.{none_goes, one_goes, sifted_list, sifted_uses, sifting_start}
use Rattle.cabinet.proofs.sifting.sift.Goals as goal

pub sifting-init : goal.sifting-init
sifting-init c = record {
  sifting = sifting_start (λ m. not (hits_of c.args.catalogue.now c.args.cover.now m)) c.args.catalogue.now c.args.store.now.blobs c.args.tally.now.uses c.args.tally.now.extents c.args.tally.now.ledger c.requires.shelved;
  clear = tt;
  room = omega arith;
  regions = omega arith;
  keys = omega arith;
}

pub forget-requires-clause-region : goal.forget-requires-clause-region
forget-requires-clause-region c =
    let t = c.in-Some.hit.kept in
    region_taken c.args.catalogue.now c.sifting.store.blobs c.sifting.tally.extents c.sifting.tally.ledger c.sifting.tally.uses c.sifting.invariant.sifting.shelved t.meta t c.in-Some.ensures.kept

pub forget-requires-clause-counted : goal.forget-requires-clause-counted
forget-requires-clause-counted c =
    let t = c.in-Some.hit.kept in
    older_in c.args.catalogue.now c.sifting.store.blobs c.sifting.tally.extents c.sifting.tally.ledger c.sifting.tally.uses c.sifting.invariant.sifting.shelved t.meta (Some t) (sym c.in-Some.ensures.kept)

pub forget-requires-clause-held : goal.forget-requires-clause-held
forget-requires-clause-held c =
    let t = c.in-Some.hit.kept in
    goes_held c.args.catalogue.now c.sifting.store.blobs c.sifting.tally.extents c.sifting.tally.ledger c.sifting.tally.uses c.sifting.invariant.sifting.shelved t.meta t c.in-Some.ensures.kept

pub sifting-smaller : goal.sifting-smaller
sifting-smaller c =
    let t = c.in-Some.hit.kept in
    let here = c.sifting.store.blobs in
    omega (arith, goes_fewer t.meta here (some_blob t.meta here t c.in-Some.ensures.kept), ap length c.drop_of.ensures.blobs)

pub sifting-preserved : goal.sifting-preserved
sifting-preserved c =
    let e = c.in-Some.ensures in
    let t = c.in-Some.hit.kept in
    let s = c.sifting.invariant in
    let cat = c.args.catalogue.now in
    let cover = c.args.cover.now in
    let tally = c.sifting.tally in
    let left = c.forget.new.self in
    let then = c.drop_of.new.self in
    record {
      sifting = one_goes (λ m. not (hits_of cat cover m)) cat c.args.store.now.blobs c.sifting.store.blobs c.args.tally.now.uses tally.uses tally.extents tally.ledger s.sifting t left.extents left.ledger left.uses then.blobs (ap not e.hit) e.kept
          c.forget.ensures.sound c.forget.ensures.given c.forget.ensures.bytes c.forget.ensures.uses c.drop_of.ensures.blobs;
      clear = c.drop_of.ensures.clear (hits_of cat cover) c.in-Some.hit.at (e.clear s.clear);
      room = omega (arith, s.room, c.drop_of.ensures.spare);
      regions = omega (arith, s.regions, c.forget.ensures.given.one_less);
      keys = omega (arith, s.keys, c.forget.ensures.spare);
    }

pub returns-in-None-clause-spared : goal.returns-in-None-clause-spared
returns-in-None-clause-spared c =
    let cat = c.args.catalogue.now in
    let cover = c.args.cover.now in
    let s = c.sifting.invariant in
    sifted_list (λ m. not (hits_of cat cover m)) cat c.args.store.now.blobs c.sifting.store.blobs c.args.tally.now.uses c.sifting.tally.uses c.sifting.tally.extents c.sifting.tally.ledger s.sifting
    (none_goes cat cover c.sifting.store.blobs (c.in-None.ensures.none s.clear))

pub returns-in-None-clause-uses : goal.returns-in-None-clause-uses
returns-in-None-clause-uses c =
    let cat = c.args.catalogue.now in
    let cover = c.args.cover.now in
    let s = c.sifting.invariant in
    let left = sifted_uses (λ m. not (hits_of cat cover m)) cat c.args.store.now.blobs c.sifting.store.blobs c.args.tally.now.uses c.sifting.tally.uses c.sifting.tally.extents c.sifting.tally.ledger s.sifting
    (none_goes cat cover c.sifting.store.blobs (c.in-None.ensures.none s.clear)) in
    record { policy = s.sifting.policy; layers = s.sifting.layers; now = s.sifting.clock; uses = λ m. left m ∙ turned (hits_of cat cover m) (use_of c.args.tally.now.uses m) }
