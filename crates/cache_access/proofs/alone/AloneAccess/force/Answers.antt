use Rattle.std.proofs.Common.{Ok, subst}
use Rattle.std.specs.Prelude.{⊤}
use Rattle.cabinet.specs.declared.replies.Forced.{Forced}
use Rattle.cabinet_chest.specs.declared.command.Command.TheVariants.{Force}
use Rattle.cabinet_chest.specs.declared.command.Reply.TheVariants as reply
use Rattle.cabinet_chest.proofs.Acting.{force_acts}
use Rattle.cache_access.specs.Alone.{IsAtRest, IsOnlyRender}
use Rattle.cache_access.specs.Turned.{RunsAfterForce}
use Rattle.cache_access.specs.Waits.{HasWaitedForced}
use Rattle.cache_access.proofs.Acting.{acts_go, leads, waited_forced}
use Rattle.cache_access.proofs.Resting.{force_runs, force_settles}
use Rattle.cache_access.proofs.alone.AloneAccess.force.Goals as goal

pub returns-in-Ok-Ticket-clause-waits : goal.returns-in-Ok-Ticket-clause-waits
returns-in-Ok-Ticket-clause-waits g c =
    let K = g.K.Keeper in let x = c.in-Ok-Ticket in let k = c.args.cache.now in let l = c.force.new.self in
    let P : Forced → Type 0 = λ r. HasWaitedForced (leads K.state K.faults K.outlasts) c.args.meta.now k l r in
    subst P x.field-0-is (waited_forced K.state K.faults K.outlasts k l c.args.meta.now x.field-0 (force_acts _ _ _ _ c.known.ensures x.ensures.later x.ensures.still_sound c.args.meta.now x.field-0 c.requires.meta x.ensures.forced) (force_settles (K.state k) (K.state l) c.requires.rests c.args.meta.now x.field-0 x.ensures.forced))

pub returns-in-Ok-Ticket-clause-goes : goal.returns-in-Ok-Ticket-clause-goes
returns-in-Ok-Ticket-clause-goes g c =
    let K = g.K.Keeper in let x = c.in-Ok-Ticket in let k = c.args.cache.now in let l = c.force.new.self in
    acts_go K.state K.faults K.outlasts k l (Force c.args.meta.now) (reply.Forced x.field-0) x.ensures.lasts (force_acts _ _ _ _ c.known.ensures x.ensures.later x.ensures.still_sound c.args.meta.now x.field-0 c.requires.meta x.ensures.forced)

pub returns-in-Ok-Ticket-clause-runs : goal.returns-in-Ok-Ticket-clause-runs
returns-in-Ok-Ticket-clause-runs g c =
    let K = g.K.Keeper in let x = c.in-Ok-Ticket in let k = c.args.cache.now in let l = c.force.new.self in
    let P : Forced → Type 0 = λ r. RunsAfterForce {E = ⊤} (IsAtRest (K.state l)) (IsOnlyRender (K.state l)) (Ok r) in
    subst P x.field-0-is (force_runs (K.state k) (K.state l) c.requires.rests c.args.meta.now x.field-0 x.ensures.forced)

pub returns-in-Ok-Spent-clause-waits : goal.returns-in-Ok-Spent-clause-waits
returns-in-Ok-Spent-clause-waits g c =
    let K = g.K.Keeper in let x = c.in-Ok-Spent in let k = c.args.cache.now in let l = c.force.new.self in
    let P : Forced → Type 0 = λ r. HasWaitedForced (leads K.state K.faults K.outlasts) c.args.meta.now k l r in
    subst P x.field-0-is (waited_forced K.state K.faults K.outlasts k l c.args.meta.now x.field-0 (force_acts _ _ _ _ c.known.ensures x.ensures.later x.ensures.still_sound c.args.meta.now x.field-0 c.requires.meta x.ensures.forced) (force_settles (K.state k) (K.state l) c.requires.rests c.args.meta.now x.field-0 x.ensures.forced))

pub returns-in-Ok-Spent-clause-goes : goal.returns-in-Ok-Spent-clause-goes
returns-in-Ok-Spent-clause-goes g c =
    let K = g.K.Keeper in let x = c.in-Ok-Spent in let k = c.args.cache.now in let l = c.force.new.self in
    acts_go K.state K.faults K.outlasts k l (Force c.args.meta.now) (reply.Forced x.field-0) x.ensures.lasts (force_acts _ _ _ _ c.known.ensures x.ensures.later x.ensures.still_sound c.args.meta.now x.field-0 c.requires.meta x.ensures.forced)
