use Rattle.std.proofs.Common.{subst, sym}
use Rattle.record_text.specs.declared.entries.Record.TheVariants as record_of
use Rattle.truncation_list.specs.Listed.{Listed}
use Rattle.cabinet_records.specs.declared.replay.progress.ReplayProgress.{ReplayProgress}
use Rattle.cabinet_records.specs.Played.{IsPlayed, PlaysOrLacks}
use Rattle.cabinet_records.proofs.replay.keeping.play_stored.Goals as goal

abbrev with_list : ReplayProgress → Listed → ReplayProgress
with_list p cuts = record { opening = p.opening; floor = p.floor; store = p.store; regions = p.regions; places = p.places; cuts = cuts; out = p.out }

pub put-requires-clause-played : goal.put-requires-clause-played
put-requires-clause-played c = subst (λ (cuts : Listed). IsPlayed c.args.catalogue.now c.args.place (with_list c.args.progress.now cuts)) (sym c.aim.ensures) c.requires.played

pub returns : goal.returns
returns c =
    let t = c.args.kept in
    subst (λ (cuts : Listed). PlaysOrLacks c.args.catalogue.now c.args.place (with_list c.args.progress.now cuts) (record_of.Stored t.number t.meta t.place t.length t.moment t.uses) c.put.result c.put.new.progress) c.aim.ensures c.put.ensures
