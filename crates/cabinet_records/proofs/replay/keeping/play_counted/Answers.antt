use Rattle.std.proofs.Common.{List, length, sym, ap, subst, arith}
use Rattle.std.proofs.lemmas.List.{length-map}
use Rattle.record_text.specs.declared.entries.Record.TheVariants as record_of
use Rattle.cabinet.specs.declared.kept.Kept.{Kept}
use Rattle.cabinet.specs.declared.kept.KeptBlob.{KeptBlob}
use Rattle.cabinet_records.specs.declared.replay.progress.ReplayProgress.{ReplayProgress}
use Rattle.cabinet_records.specs.Placed.{AreTied, place_in}
use Rattle.cabinet_records.specs.Played.{replayed_of}
use Rattle.cabinet_records.specs.Replay.{IsKeptUnder}
use Rattle.cabinet.specs.History.{with_uses}
use Rattle.cabinet.specs.Shelved.{listed}
use Rattle.cabinet_records.proofs.Playing.{with_kept, played_from}
use Rattle.cabinet_records.proofs.Tied.{counted_tied, later_tied}
use Rattle.cabinet_records.proofs.replay.keeping.play_counted.Goals as goal

pub returns : goal.returns
returns c = λ next played.
    let p = c.args.progress.now in
    let m = c.args.meta.now in
    let n = c.args.uses in
    let may : IsKeptUnder c.args.catalogue.now (replayed_of p) c.args.number m = c.is_kept_under.ensures.0 (cc (c.if-not-is_kept_under.false)) in
    let list = c.recount.ensures.kept in
    let same = ap (with_kept (replayed_of p)) list in
    let new : ReplayProgress = record { opening = p.opening; floor = p.floor; store = c.recount.new.self; regions = p.regions; places = p.places; cuts = p.cuts; out = p.out } in
    let tied = counted_tied next (listed p.store.blobs) p.regions (place_in p.places.entries) m n played.tied in
    let count = ap (λ (ts : List Kept). length ts) list in
    let room = played.room in (
      may,
      same,
      played_from c.args.catalogue.now next p new (record_of.Uses c.args.number m n) played may same
          (later_tied next (listed new.store.blobs) new.regions (place_in new.places.entries) (subst (λ ts. AreTied next ts new.regions (place_in new.places.entries)) (sym list) tied))
          played.size played.floor played.none
          (omega (arith, room, count, length-map (listed p.store.blobs) (with_uses m n), length-map p.store.blobs (λ (b : KeptBlob). b.kept), length-map new.store.blobs (λ (b : KeptBlob). b.kept))),
    )
