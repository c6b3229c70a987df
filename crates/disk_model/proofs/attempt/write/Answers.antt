use Rattle.std.proofs.lemmas.Result.{on_ok_weaker, on_err_weaker}
use Rattle.disk_model.specs.Content.{TornWrite}
use Rattle.disk_model.specs.Writes.{unchanged_write}
use Rattle.disk_model.proofs.Calls.{either, seen_none, steps_none, steps_written, seen_written}
use Rattle.std.proofs.Common.{length}
use Rattle.disk_model.proofs.attempt.write.Goals as goal

pub returns-clause-written : goal.returns-clause-written
returns-clause-written c =
    let old = c.args.log.now in
    let new = c.make.new.self in
    on_ok_weaker c.make.result
    (seen_written old new c.make.ensures.first c.args.at c.args.bytes.now c.in_ok-kept.kept c.in_ok-kept.ensures.items)
    c.make.ensures.ok

pub returns-clause-steps : goal.returns-clause-steps
returns-clause-steps c =
    let old = c.args.log.now in
    let new = c.make.new.self in
    either c.make.result c.make.ensures.ok c.make.ensures.err
    (steps_written old new c.make.ensures.first c.args.at c.args.bytes.now c.in_ok-kept.kept c.in_ok-kept.ensures.items)
    (steps_none old new c.make.ensures.first (TornWrite c.args.at (length c.args.bytes.now)) (unchanged_write c.args.at (length c.args.bytes.now)))

pub returns-clause-kept : goal.returns-clause-kept
returns-clause-kept c = on_err_weaker c.make.result (seen_none c.args.log.now c.make.new.self c.make.ensures.first) c.make.ensures.err
