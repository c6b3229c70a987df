use Rattle.std.proofs.lemmas.Result.{on_ok_weaker}
use Rattle.disk_model.specs.Content.{Same}
use Rattle.disk_model.proofs.Calls.{either, steps_none, steps_synced, only_synced}
use Rattle.std.proofs.Common.{refl}
use Rattle.disk_model.proofs.attempt.sync.Goals as goal

pub returns-clause-durable : goal.returns-clause-durable
returns-clause-durable c =
    let old = c.args.log.now in
    let new = c.make.new.self in
    on_ok_weaker c.make.result
    (only_synced old new c.make.ensures.first)
    c.make.ensures.ok

pub returns-clause-steps : goal.returns-clause-steps
returns-clause-steps c =
    let old = c.args.log.now in
    let new = c.make.new.self in
    either c.make.result c.make.ensures.ok c.make.ensures.err
    (steps_synced old new c.make.ensures.first)
    (steps_none old new c.make.ensures.first Same (λ d. refl))
