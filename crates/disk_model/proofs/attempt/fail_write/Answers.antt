use Rattle.std.proofs.Common.{refl, length}
use Rattle.disk_model.specs.Content.{TornWrite}
use Rattle.disk_model.specs.Writes.{unchanged_write}
use Rattle.disk_model.specs.declared.log.Call.TheVariants.{WriteFailed}
use Rattle.disk_model.proofs.Calls.{either, seen_kept, seen_none, steps_none, steps_write_failed}
use Rattle.disk_model.proofs.attempt.fail_write.Goals as goal

pub returns-clause-steps : goal.returns-clause-steps
returns-clause-steps c =
    let old = c.args.log.now in
    let new = c.make.new.self in
    either c.make.result c.make.ensures.ok c.make.ensures.err
    (steps_write_failed old new c.make.ensures.first c.args.at c.args.bytes.now c.in_ok-kept.kept c.in_ok-kept.ensures.items)
    (steps_none old new c.make.ensures.first (TornWrite c.args.at (length c.args.bytes.now)) (unchanged_write c.args.at (length c.args.bytes.now)))

pub returns-clause-kept : goal.returns-clause-kept
returns-clause-kept c =
    let old = c.args.log.now in
    let new = c.make.new.self in
    either c.make.result c.make.ensures.ok c.make.ensures.err
    (seen_kept old new c.make.ensures.first (WriteFailed c.args.at c.in_ok-kept.kept) (λ d. refl))
    (seen_none old new c.make.ensures.first)
