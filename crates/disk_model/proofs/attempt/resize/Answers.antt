use Rattle.std.proofs.lemmas.Result.{on_ok_weaker, on_err_weaker}
use Rattle.disk_model.specs.Content.{TornCut}
use Rattle.disk_model.specs.Writes.{unchanged_cut}
use Rattle.disk_model.proofs.Calls.{either, seen_none, steps_none, steps_resized, seen_resized}
use Rattle.disk_model.proofs.attempt.resize.Goals as goal

pub returns-clause-resized : goal.returns-clause-resized
returns-clause-resized c =
    let old = c.args.log.now in
    let new = c.make.new.self in
    on_ok_weaker c.make.result
    (seen_resized old new c.make.ensures.first c.args.length)
    c.make.ensures.ok

pub returns-clause-steps : goal.returns-clause-steps
returns-clause-steps c =
    let old = c.args.log.now in
    let new = c.make.new.self in
    either c.make.result c.make.ensures.ok c.make.ensures.err
    (steps_resized old new c.make.ensures.first c.args.length)
    (steps_none old new c.make.ensures.first (TornCut c.args.length) (unchanged_cut c.args.length))

pub returns-clause-kept : goal.returns-clause-kept
returns-clause-kept c = on_err_weaker c.make.result (seen_none c.args.log.now c.make.new.self c.make.ensures.first) c.make.ensures.err
