use Rattle.std.proofs.Common.{ℕ, Bool, Option, Some, None, ◌≡◌, ◌+◌, ◌++◌, ◌∷◌, [], length, sym, subst, arith, length-append}
use Rattle.record_text.specs.declared.entries.Record.{Record}
use Rattle.cabinet_records.specs.Played.{IsPlayed, Plays, replayed_of}
use Rattle.cabinet_records.specs.Replay.{IsBadAt, Replays, unplayed}
use Rattle.cabinet_records.specs.Shows.{StandsAt}
use Rattle.cabinet_records.proofs.Judged.{bad_here, bad_more, bad_none}
use Rattle.cabinet_records.proofs.Playing.{replays_push}
use Rattle.cabinet_records.proofs.replay.judging.judge.Goals as goal

pub returns-in-Some-clause-more : goal.returns-in-Some-clause-more
returns-in-Some-clause-more c = λ records e h.
    let stands = subst (StandsAt c.args.catalogue.now records c.args.progress.now) c.in-Some.is h in
    bad_more c.args.catalogue.now unplayed records c.args.entry.now c.in-Some.slot stands

pub returns-in-None-entry-clause-more : goal.returns-in-None-entry-clause-more
returns-in-None-entry-clause-more c = λ records e h.
    let cat = c.args.catalogue.now in
    let stands = subst (StandsAt cat records c.args.progress.now) c.in-None.is h in
    let bad = bad_none cat unplayed records (replayed_of c.args.progress.now) stands.0 in
    subst (λ (x : Option Record). IsBadAt cat unplayed (records ++ x ∷ []) c.args.count) (sym c.in-None-entry.is) (subst (IsBadAt cat unplayed (records ++ None ∷ [])) (sym e) bad)

pub returns-in-Ok-true-clause-more : goal.returns-in-Ok-true-clause-more
returns-in-Ok-true-clause-more c = λ records e h.
    let cat = c.args.catalogue.now in
    let p = c.args.progress.now in
    let new = c.play.new.progress in
    let x = c.in-Some-entry.entry in
    let stands = subst (StandsAt cat records p) c.in-None.is h in
    let plays = subst (λ (v : Bool). Plays cat c.args.count p x v new) c.in-Ok-true.field-0-test c.in-Ok-true.ensures.played in
    let pushed = subst (Replays cat unplayed (records ++ Some x ∷ [])) (sym plays.1) (replays_push cat unplayed records (replayed_of p) x stands.0 plays.0) in
    let more : c.args.count + 1 ≡ length (records ++ Some x ∷ []) = let n = length-append records (Some x ∷ []) in omega (arith, n, e) in
    subst (λ (y : Option Record). Replays cat unplayed (records ++ y ∷ []) (replayed_of new) × IsPlayed cat (length (records ++ y ∷ [])) new) (sym c.in-Some-entry.is) (pushed, subst (λ (n : ℕ). IsPlayed cat n new) more plays.2)

pub returns-in-Ok-false-clause-more : goal.returns-in-Ok-false-clause-more
returns-in-Ok-false-clause-more c = λ records e h.
    let cat = c.args.catalogue.now in
    let p = c.args.progress.now in
    let x = c.in-Some-entry.entry in
    let stands = subst (StandsAt cat records p) c.in-None.is h in
    let off = subst (λ (v : Bool). Plays cat c.args.count p x v c.play.new.progress) c.in-Ok-false.field-0-test c.in-Ok-false.ensures.played in
    let bad = bad_here cat unplayed records (replayed_of p) x stands.0 off in
    subst (λ (y : Option Record). IsBadAt cat unplayed (records ++ y ∷ []) c.args.count) (sym c.in-Some-entry.is) (subst (IsBadAt cat unplayed (records ++ Some x ∷ [])) (sym e) bad)
