use Rattle.std.proofs.Common.{◌≡◌, Some, find, sym, ap, subst, ◌∙◌, arith}
use Rattle.record_text.specs.declared.entries.Record.TheVariants as record_of
use Rattle.cabinet.specs.History.{is_of}
use Rattle.cabinet_records.specs.declared.replay.progress.ReplayProgress.{ReplayProgress}
use Rattle.cabinet_records.specs.Placed.{AreTied, place_in}
use Rattle.cabinet_records.specs.Played.{replayed_of}
use Rattle.cabinet_records.specs.Replay.{IsKeptUnder}
use Rattle.cabinet.specs.Shelved.{listed}
use Rattle.cabinet_records.proofs.Playing.{with_kept, dropped_few, dropped_list, played_from}
use Rattle.cabinet_records.proofs.Tied.{dropped_tied, later_tied, region_taken}
use Rattle.cabinet_records.proofs.replay.keeping.play_dropped.Goals as goal

pub give-requires : goal.give-requires
give-requires c =
    let p = c.args.progress.now in
    record { taken = region_taken c.requires.played.0 (listed p.store.blobs) p.regions (place_in p.places.entries) c.args.meta.now c.in-Some.kept c.requires.played.1.tied (sym c.kept_of.ensures ∙ c.in-Some.is) }

pub returns : goal.returns
returns c = λ next played.
    let p = c.args.progress.now in
    let m = c.args.meta.now in
    let t = c.in-Some.kept in
    let may : IsKeptUnder c.args.catalogue.now (replayed_of p) c.args.number m = c.is_kept_under.ensures.0 (cc (c.if-not-is_kept_under.false)) in
    let list = dropped_list m p.store.blobs c.drop_of.new.self.blobs c.drop_of.ensures.blobs in
    let same = ap (with_kept (replayed_of p)) list in
    let found : find (is_of m) (listed p.store.blobs) ≡ Some t = sym c.kept_of.ensures ∙ c.in-Some.is in
    let tied = dropped_tied next (listed p.store.blobs) p.regions c.give.new.self (place_in p.places.entries) (place_in c.drop_place.new.places.entries) m t played.tied found c.give.ensures.sound c.give.ensures.given c.drop_place.ensures.places in
    let fewer = dropped_few m p.store.blobs c.drop_of.new.self.blobs c.drop_of.ensures.blobs in
    let room = played.room in
    let new : ReplayProgress = record { opening = p.opening; floor = p.floor; store = c.drop_of.new.self; regions = c.give.new.self; places = c.drop_place.new.places; cuts = p.cuts; out = p.out } in (
      may,
      same,
      played_from c.args.catalogue.now next p new (record_of.Dropped c.args.number m) played may same
          (later_tied next (listed new.store.blobs) new.regions (place_in new.places.entries) (subst (λ ts. AreTied next ts new.regions (place_in new.places.entries)) (sym list) tied))
          (sym c.give.ensures.given.same_size ∙ played.size) played.floor played.none (omega (arith, fewer, room)),
    )
