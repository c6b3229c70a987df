use Rattle.std.proofs.Common.{◌≡◌, ◌<◌, ◌++◌, ◌∷◌, [], sym, ap, subst, ◌∙◌, arith}
use Rattle.std.specs.List.{AllByRecursion}
use Rattle.std.proofs.lemmas.List.Elements.{All-from_recursion}
use Rattle.record_text.specs.declared.entries.Record.TheVariants as record_of
use Rattle.truncation_list.specs.declared.book.Book.{Book}
use Rattle.truncation_list.specs.declared.book.Cut.{Cut}
use Rattle.cabinet_records.specs.declared.replay.progress.ReplayProgress.{ReplayProgress}
use Rattle.cabinet_records.specs.Placed.{place_in}
use Rattle.cabinet_records.specs.Played.{replayed_of}
use Rattle.cabinet_records.specs.Replay.{MayCut, replayed}
use Rattle.cabinet.specs.Shelved.{listed}
use Rattle.cabinet_records.proofs.Playing.{played_from, with_cuts}
use Rattle.cabinet_records.proofs.Tied.{later_tied}
use Rattle.cabinet_records.proofs.replay.cutting.cut.Goals as goal

pub enter-requires-clause-above : goal.enter-requires-clause-above
enter-requires-clause-above c =
    let may : MayCut c.args.catalogue.now (replayed_of c.args.progress.now) c.args.number c.args.cover.now = c.may_cut.ensures.0 (cc (c.if-not-may_cut.false)) in
    All-from_recursion (λ (k : Cut). k.number < c.args.number) c.reserve.new.self.book.cuts (subst (λ (b : Book). AllByRecursion (λ k. k.number < c.args.number) b.cuts) (sym c.reserve.ensures.book) may.above)

-- what is held at the end
abbrev later : goal.After-enter → ReplayProgress
later c =
    let p = c.args.progress.now in
    record { opening = p.opening; floor = p.floor; store = c.spare.new.store; regions = c.spare.new.regions; places = c.spare.new.places; cuts = c.enter.new.self; out = p.out }

pub returns : goal.returns
returns c = λ next played.
    let p = c.args.progress.now in
    let cat = c.args.catalogue.now in
    let new : Cut = record { number = c.args.number; cover = c.args.cover.now } in
    let may : MayCut cat (replayed_of p) c.args.number c.args.cover.now = c.may_cut.ensures.0 (cc (c.if-not-may_cut.false)) in
    let list = c.spare.ensures.spared in
    let cuts : c.enter.new.self.book.cuts ≡ p.cuts.book.cuts ++ new ∷ [] = ap (λ (b : Book). b.cuts) c.enter.ensures ∙ ap (λ (b : Book). b.cuts ++ new ∷ []) c.reserve.ensures.book in
    let floor : c.enter.new.self.book.floor ≡ p.cuts.book.floor = ap (λ (b : Book). b.floor) c.enter.ensures ∙ ap (λ (b : Book). b.floor) c.reserve.ensures.book in
    let x = record_of.Cut c.args.number c.args.cover.now in
    let same : replayed_of (later c) ≡ replayed cat (replayed_of p) x = λ i. with_cuts (replayed_of p) (list i) (cuts i) in
    let tied = c.spare.ensures.tied next played.tied in
    let room = played.room in
    record {
      played = (
        may,
        same,
        played_from cat next p (later c) x played may same (later_tied next (listed c.spare.new.store.blobs) c.spare.new.regions (place_in c.spare.new.places.entries) tied) (c.spare.ensures.size ∙ played.size) (floor ∙ played.floor) played.none
            (omega (arith, room, c.spare.ensures.few)),
      );
      same = tt;
      kept = tt;
    }
