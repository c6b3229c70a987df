use Rattle.std.proofs.Common.{sym, subst}
use Rattle.record_text.specs.declared.entries.Record.{Record}
use Rattle.cabinet_records.specs.Played.{PlaysOrLacks}
use Rattle.cabinet_records.proofs.replay.entering.play.Goals as goal

pub returns-in-Cut : goal.returns-in-Cut
returns-in-Cut c =
    subst (λ (x : Record). PlaysOrLacks c.args.catalogue.now c.args.place c.args.progress.now x c.cut.result c.cut.new.progress) (sym c.in-Cut.is) (c.cut.ensures c.args.place c.requires.played)
