use Rattle.std.proofs.lemmas.Option.{slice_get-get_or}
use Rattle.cabinet.proofs.Entering.{can_enter, entered_next}
use Rattle.cabinet.proofs.shelf.restore.Goals as goal

pub enter_one-requires : goal.enter_one-requires
enter_one-requires c =
    let kept = c.args.kept.now in
    can_enter c.args.shelf.now.catalogue kept c.restoring.at _ c.restoring.shelf c.requires.fit (slice_get-get_or kept c.restoring.at _ c.restoring-test.true) c.restoring.invariant

pub restoring-preserved : goal.restoring-preserved
restoring-preserved c =
    let kept = c.args.kept.now in
    entered_next c.args.shelf.now.catalogue kept c.restoring.at _ c.restoring.shelf c.enter_one.new.shelf c.requires.fit (slice_get-get_or kept c.restoring.at _ c.restoring-test.true) c.restoring.invariant c.in-Ok.ensures
