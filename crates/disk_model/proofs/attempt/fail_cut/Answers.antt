use Rattle.std.proofs.Common.{refl}
use Rattle.disk_model.specs.Content.{TornCut}
use Rattle.disk_model.specs.Writes.{unchanged_cut}
use Rattle.disk_model.specs.declared.log.Call.TheVariants.{CutFailed}
use Rattle.disk_model.proofs.Calls.{either, seen_kept, seen_none, steps_none, steps_cut_failed}
use Rattle.disk_model.proofs.attempt.fail_cut.Goals as goal

pub returns-clause-steps : goal.returns-clause-steps
returns-clause-steps c =
    let old = c.args.log.now in
    let new = c.make.new.self in
    either c.make.result c.make.ensures.ok c.make.ensures.err
    (steps_cut_failed old new c.make.ensures.first c.args.length)
    (steps_none old new c.make.ensures.first (TornCut c.args.length) (unchanged_cut c.args.length))

pub returns-clause-kept : goal.returns-clause-kept
returns-clause-kept c =
    let old = c.args.log.now in
    let new = c.make.new.self in
    either c.make.result c.make.ensures.ok c.make.ensures.err
    (seen_kept old new c.make.ensures.first (CutFailed c.args.length) (λ d. refl))
    (seen_none old new c.make.ensures.first)
