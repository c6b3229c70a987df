use Rattle.std.proofs.Common.{Ok, subst}
use Rattle.std.specs.Prelude.{⊤}
use Rattle.cabinet.specs.declared.replies.Asked.{Asked}
use Rattle.cabinet_chest.specs.declared.command.Command.TheVariants.{Ask}
use Rattle.cabinet_chest.specs.declared.command.Reply.TheVariants as reply
use Rattle.cabinet_chest.proofs.Acting.{ask_acts}
use Rattle.cache_access.specs.Alone.{IsAtRest, IsOnlyRender}
use Rattle.cache_access.specs.Turned.{RunsAfterAsk}
use Rattle.cache_access.specs.Waits.{HasWaited}
use Rattle.cache_access.proofs.Acting.{acts_go, leads, waited}
use Rattle.cache_access.proofs.Resting.{ask_runs, ask_settles}
use Rattle.cache_access.proofs.alone.AloneAccess.ask.Goals as goal

pub returns-in-Ok-Hit-clause-waits : goal.returns-in-Ok-Hit-clause-waits
returns-in-Ok-Hit-clause-waits g c =
    let K = g.K.Keeper in let x = c.in-Ok-Hit in let k = c.args.cache.now in let l = c.ask.new.self in
    let P : Asked → Type 0 = λ r. HasWaited (leads K.state K.faults K.outlasts) c.args.address.now k l r in
    subst P x.field-0-is (waited K.state K.faults K.outlasts k l c.args.address.now x.field-0 (ask_acts _ _ _ _ c.known.ensures x.ensures.later x.ensures.still_sound c.args.address.now x.field-0 c.requires.tile x.ensures.asked x.ensures.sound) (ask_settles (K.state k) (K.state l) c.requires.rests _ _ c.args.address.now x.field-0 x.ensures.asked))

pub returns-in-Ok-Hit-clause-goes : goal.returns-in-Ok-Hit-clause-goes
returns-in-Ok-Hit-clause-goes g c =
    let K = g.K.Keeper in let x = c.in-Ok-Hit in let k = c.args.cache.now in let l = c.ask.new.self in
    acts_go K.state K.faults K.outlasts k l (Ask c.args.address.now) (reply.Asked x.field-0) x.ensures.lasts (ask_acts _ _ _ _ c.known.ensures x.ensures.later x.ensures.still_sound c.args.address.now x.field-0 c.requires.tile x.ensures.asked x.ensures.sound)

pub returns-in-Ok-Ticket-clause-waits : goal.returns-in-Ok-Ticket-clause-waits
returns-in-Ok-Ticket-clause-waits g c =
    let K = g.K.Keeper in let x = c.in-Ok-Ticket in let k = c.args.cache.now in let l = c.ask.new.self in
    let P : Asked → Type 0 = λ r. HasWaited (leads K.state K.faults K.outlasts) c.args.address.now k l r in
    subst P x.field-0-is (waited K.state K.faults K.outlasts k l c.args.address.now x.field-0 (ask_acts _ _ _ _ c.known.ensures x.ensures.later x.ensures.still_sound c.args.address.now x.field-0 c.requires.tile x.ensures.asked x.ensures.sound) (ask_settles (K.state k) (K.state l) c.requires.rests _ _ c.args.address.now x.field-0 x.ensures.asked))

pub returns-in-Ok-Ticket-clause-goes : goal.returns-in-Ok-Ticket-clause-goes
returns-in-Ok-Ticket-clause-goes g c =
    let K = g.K.Keeper in let x = c.in-Ok-Ticket in let k = c.args.cache.now in let l = c.ask.new.self in
    acts_go K.state K.faults K.outlasts k l (Ask c.args.address.now) (reply.Asked x.field-0) x.ensures.lasts (ask_acts _ _ _ _ c.known.ensures x.ensures.later x.ensures.still_sound c.args.address.now x.field-0 c.requires.tile x.ensures.asked x.ensures.sound)

pub returns-in-Ok-Ticket-clause-runs : goal.returns-in-Ok-Ticket-clause-runs
returns-in-Ok-Ticket-clause-runs g c =
    let K = g.K.Keeper in let x = c.in-Ok-Ticket in let k = c.args.cache.now in let l = c.ask.new.self in
    let P : Asked → Type 0 = λ r. RunsAfterAsk {E = ⊤} (IsAtRest (K.state l)) (IsOnlyRender (K.state l)) (Ok r) in
    subst P x.field-0-is (ask_runs (K.state k) (K.state l) c.requires.rests _ _ c.args.address.now x.field-0 x.ensures.asked)

pub returns-in-Ok-Spent-clause-waits : goal.returns-in-Ok-Spent-clause-waits
returns-in-Ok-Spent-clause-waits g c =
    let K = g.K.Keeper in let x = c.in-Ok-Spent in let k = c.args.cache.now in let l = c.ask.new.self in
    let P : Asked → Type 0 = λ r. HasWaited (leads K.state K.faults K.outlasts) c.args.address.now k l r in
    subst P x.field-0-is (waited K.state K.faults K.outlasts k l c.args.address.now x.field-0 (ask_acts _ _ _ _ c.known.ensures x.ensures.later x.ensures.still_sound c.args.address.now x.field-0 c.requires.tile x.ensures.asked x.ensures.sound) (ask_settles (K.state k) (K.state l) c.requires.rests _ _ c.args.address.now x.field-0 x.ensures.asked))

pub returns-in-Ok-Spent-clause-goes : goal.returns-in-Ok-Spent-clause-goes
returns-in-Ok-Spent-clause-goes g c =
    let K = g.K.Keeper in let x = c.in-Ok-Spent in let k = c.args.cache.now in let l = c.ask.new.self in
    acts_go K.state K.faults K.outlasts k l (Ask c.args.address.now) (reply.Asked x.field-0) x.ensures.lasts (ask_acts _ _ _ _ c.known.ensures x.ensures.later x.ensures.still_sound c.args.address.now x.field-0 c.requires.tile x.ensures.asked x.ensures.sound)
