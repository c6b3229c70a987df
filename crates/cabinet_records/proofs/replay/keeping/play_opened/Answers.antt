use Rattle.std.proofs.Common.{◌≡◌, max, Some, ap}
use Rattle.record_text.specs.declared.entries.Record.TheVariants as record_of
use Rattle.cabinet_records.specs.declared.replay.progress.ReplayProgress.{ReplayProgress}
use Rattle.cabinet_records.specs.Placed.{place_in}
use Rattle.cabinet_records.specs.Played.{replayed_of}
use Rattle.cabinet_records.specs.Replay.{MayOpen}
use Rattle.cabinet.specs.Shelved.{listed}
use Rattle.cabinet_records.proofs.Playing.{played_from, with_opening}
use Rattle.cabinet_records.proofs.Tied.{later_tied}
use Rattle.cabinet_records.proofs.replay.keeping.play_opened.Goals as goal

pub returns : goal.returns
returns c = λ cat next played.
    let p = c.args.progress.now in
    let may : MayOpen (replayed_of p) c.args.opening c.args.floor = c.may_open.ensures.0 (cc (c.if-not-may_open.false)) in
    let greater : c.max-progress.result ≡ max p.floor c.args.floor = c.max-progress.ensures in
    let same = ap (with_opening (replayed_of p) c.args.opening) greater in
    let new : ReplayProgress = record { opening = Some c.args.opening; floor = c.max-progress.result; store = p.store; regions = p.regions; places = p.places; cuts = p.cuts; out = p.out } in
    (may, same, played_from cat next p new (record_of.Opened c.args.opening c.args.floor) played may same (later_tied next (listed p.store.blobs) p.regions (place_in p.places.entries) played.tied) played.size played.floor played.none played.room)
