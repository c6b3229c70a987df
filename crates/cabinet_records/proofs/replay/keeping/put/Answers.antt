use Rattle.std.proofs.Common.{◌≡◌, ◌+◌, true, sym, ap, subst, ◌∙◌, arith}
use Rattle.record_text.specs.declared.entries.Record.TheVariants as record_of
use Rattle.cabinet_records.specs.declared.replay.progress.ReplayProgress.{ReplayProgress}
use Rattle.cabinet.specs.History.{but}
use Rattle.cabinet_records.specs.Placed.{AreTied, place_in}
use Rattle.cabinet_records.specs.Played.{MayKeep, places_but, replayed_of}
use Rattle.cabinet_records.specs.Replay.{MayStore, Replayed, replayed}
use Rattle.cabinet.specs.Shelved.{listed}
use Rattle.cabinet.proofs.Once.{but_apart}
use Rattle.cabinet_records.proofs.Playing.{free_stored, given_size, given_tied, kept_some, older_taken, played_from, same_replayed, still_played, stored_few, stored_free, stored_list, with_kept}
use Rattle.cabinet_records.proofs.Tied.{pushed_tied}
use Rattle.cabinet_records.proofs.replay.keeping.put.Goals as goal

-- what is held at the end
abbrev later : goal.After-move_place → ReplayProgress
later c =
    let p = c.make_room.new.progress in
    record { opening = p.opening; floor = p.floor; store = c.put.new.self; regions = c.claim.new.regions; places = c.move_place.new.places; cuts = p.cuts; out = p.out }

pub claim-requires-clause-some : goal.claim-requires-clause-some
claim-requires-clause-some c = kept_some c.args.catalogue.now (replayed_of c.args.progress.now) c.args.kept c.requires.valid (c.may_keep.ensures.0 (cc (c.if-not-may_keep.false)))

pub claim-requires-clause-older : goal.claim-requires-clause-older
claim-requires-clause-older c =
    let p = c.make_room.new.progress in
    let played = still_played c.args.catalogue.now c.args.place c.args.progress.now p c.requires.played c.make_room.ensures.same in
    older_taken c.args.place (listed p.store.blobs) p.regions (place_in p.places.entries) c.args.kept.meta c.kept_of-older.result played.tied c.kept_of-older.ensures

pub returns-then-not-claim : goal.returns-then-not-claim
returns-then-not-claim c =
    let old = c.args.progress.now in
    let p = c.make_room.new.progress in
    let t = c.args.kept in
    let older = c.kept_of-older.result in
    let cat = c.args.catalogue.now in
    let e = c.claim.ensures in
    let played = still_played cat c.args.place old p c.requires.played c.make_room.ensures.same in
    let tied = given_tied c.args.place (listed p.store.blobs) p.regions e.given (place_in p.places.entries) t.meta older played.tied c.kept_of-older.ensures e.back e.left e.sound in
    let size = given_size p.regions e.given older e.back e.left ∙ played.size in
    record {
      played = λ may.
          let here : MayStore cat (replayed_of p) t = subst (λ (r : Replayed). MayStore cat r t) (sym (same_replayed old p c.make_room.ensures.same)) may in
          let is : c.claim.result ≡ true = e.free.1 (stored_free cat (replayed_of p) t e.given tied.parts size here) in
          cc (is, c.if-not-claim.true);
      same = tt;
      kept = tt;
    }

pub returns : goal.returns
returns c =
    let old = c.args.progress.now in
    let p = c.make_room.new.progress in
    let t = c.args.kept in
    let older = c.kept_of-older.result in
    let cat = c.args.catalogue.now in
    let e = c.claim.ensures in
    let s = c.make_room.ensures.same in
    let played = still_played cat c.args.place old p c.requires.played s in
    let tied = given_tied c.args.place (listed p.store.blobs) p.regions e.given (place_in p.places.entries) t.meta older played.tied c.kept_of-older.ensures e.back e.left e.sound in
    let size = given_size p.regions e.given older e.back e.left ∙ played.size in
    let was = same_replayed old p s in
    let keep : MayKeep cat (replayed_of p) t = subst (λ (r : Replayed). MayKeep cat r t) (sym was) (c.may_keep.ensures.0 (cc (c.if-not-may_keep.false))) in
    let is : c.claim.result ≡ true = cc (c.if-not-claim.false) in
    let may : MayStore cat (replayed_of p) t = free_stored cat (replayed_of p) t e.given keep tied.parts size (e.free.0 is) in
    let x = record_of.Stored t.number t.meta t.place t.length t.moment t.uses in
    let list = stored_list t c.away.result p.store.blobs c.put.new.self.blobs c.put.ensures.blobs in
    let same : replayed_of (later c) ≡ replayed cat (replayed_of p) x = ap (with_kept (replayed_of p)) list in
    let taken = e.taken is in
    let pushed = pushed_tied c.args.place (but t.meta (listed p.store.blobs)) e.given c.claim.new.regions (places_but older (place_in p.places.entries)) (place_in c.move_place.new.places.entries) t tied keep.own (but_apart t.meta (listed p.store.blobs)) e.order taken c.move_place.ensures in
    let more = stored_few t c.away.result p.store.blobs c.put.new.self.blobs c.put.ensures.blobs in
    let room = c.in-Ok.ensures.room in
    record {
      played = (
        subst (λ (r : Replayed). MayStore cat r t) was may,
        same ∙ ap (λ (r : Replayed). replayed cat r x) was,
        played_from cat c.args.place p (later c) x played may same (subst (λ ts. AreTied (c.args.place + 1) ts c.claim.new.regions (place_in c.move_place.new.places.entries)) (sym list) pushed)
            (taken.same_size ∙ size) played.floor played.none (omega (arith, more, room.out)),
      );
      same = tt;
      kept = tt;
    }
