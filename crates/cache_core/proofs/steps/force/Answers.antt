use Rattle.std.proofs.Common.{rules, subst}
use Rattle.cabinet.specs.Commands.{Forces, IsBusy, IsSpent, IsTicketGiven}
use Rattle.cabinet.specs.declared.replies.Forced.{Forced}
use Rattle.cabinet.specs.declared.replies.Forced.TheVariants as forced
use Rattle.cabinet.specs.State.{asked_at}
use Rattle.metatile_plan.specs.declared.metatile.MetaKey.{MetaKey}
use Rattle.cache_core.proofs.Beginnings.{busy_forced, spent_forced, ticket_forced}
use Rattle.cache_core.proofs.Lasting.{force_lasts, same_lasts}
use Rattle.cache_core.proofs.steps.force.Goals as goal

pub returns-in-Ok-Ticket-clause-begins : goal.returns-in-Ok-Ticket-clause-begins
returns-in-Ok-Ticket-clause-begins g c =
    let x = c.in-Ok-Ticket in
    let s = g.C.Keeper.state c.args.cabinet.now in let t = g.C.Keeper.state c.force.new.self in let b = g.C.Keeper.faults c.args.cabinet.now in let a = g.C.Keeper.faults c.force.new.self in
    let P : Forced → Type 0 = λ r. Forces s c.block_of-meta.result r t in
    let Q : MetaKey → Type 0 = λ m. IsTicketGiven (asked_at t.clock.moment s) m x.ticket t in
    let row = subst P x.field-0-is x.ensures.forced in
    let at_block = subst Q (search rules) row in
    let fresh = c.laws_of_rows.ensures.forces_fresh s t c.args.address.now (forced.Ticket x.ticket) c.known.ensures c.requires at_block in
    ticket_forced b a x.ensures.later s t t.clock.moment c.args.address.now x.ticket c.goes_on-in-Ok-Ticket.result c.requires at_block c.goes_on-in-Ok-Ticket.ensures.actor c.goes_on-in-Ok-Ticket.ensures.outcome fresh

pub returns-in-Ok-Busy-clause-begins : goal.returns-in-Ok-Busy-clause-begins
returns-in-Ok-Busy-clause-begins g c =
    let x = c.in-Ok-Busy in
    let s = g.C.Keeper.state c.args.cabinet.now in let t = g.C.Keeper.state c.force.new.self in let b = g.C.Keeper.faults c.args.cabinet.now in let a = g.C.Keeper.faults c.force.new.self in
    let P : Forced → Type 0 = λ r. Forces s c.block_of-meta.result r t in
    let Q : MetaKey → Type 0 = λ m. IsBusy (asked_at t.clock.moment s) m x.field-0-0 t in
    let at_block = subst Q (search rules) (subst P x.field-0-is x.ensures.forced) in
    busy_forced b a x.ensures.later s t t.clock.moment c.args.address.now c.goes_on.result c.requires x.field-0-0 at_block c.goes_on.ensures.actor c.goes_on.ensures.outcome

pub returns-in-Ok-Spent-clause-begins : goal.returns-in-Ok-Spent-clause-begins
returns-in-Ok-Spent-clause-begins g c =
    let x = c.in-Ok-Spent in
    let s = g.C.Keeper.state c.args.cabinet.now in let t = g.C.Keeper.state c.force.new.self in let b = g.C.Keeper.faults c.args.cabinet.now in let a = g.C.Keeper.faults c.force.new.self in
    let P : Forced → Type 0 = λ r. Forces s c.block_of-meta.result r t in
    let Q : MetaKey → Type 0 = λ m. IsSpent (asked_at t.clock.moment s) m t in
    let at_block = subst Q (search rules) (subst P x.field-0-is x.ensures.forced) in
    spent_forced b a x.ensures.later s t t.clock.moment c.args.address.now c.ends-in-Ok-Spent.result c.requires at_block c.ends-in-Ok-Spent.ensures.actor c.ends-in-Ok-Spent.ensures.outcome

pub returns-in-Ok-Ticket-clause-lasts : goal.returns-in-Ok-Ticket-clause-lasts
returns-in-Ok-Ticket-clause-lasts g c =
    let x = c.in-Ok-Ticket in
    let K = g.C.Keeper in let s = K.state c.args.cabinet.now in let t = K.state c.force.new.self in
    force_lasts (K.outlasts c.args.cabinet.now c.force.new.self) s t x.ensures.lasts c.known.ensures c.block_of-meta.result x.field-0 (search rules) x.ensures.forced

pub returns-in-Ok-Busy-clause-lasts : goal.returns-in-Ok-Busy-clause-lasts
returns-in-Ok-Busy-clause-lasts g c =
    let x = c.in-Ok-Busy in
    let K = g.C.Keeper in let s = K.state c.args.cabinet.now in let t = K.state c.force.new.self in
    force_lasts (K.outlasts c.args.cabinet.now c.force.new.self) s t x.ensures.lasts c.known.ensures c.block_of-meta.result x.field-0 (search rules) x.ensures.forced

pub returns-in-Ok-Spent-clause-lasts : goal.returns-in-Ok-Spent-clause-lasts
returns-in-Ok-Spent-clause-lasts g c =
    let x = c.in-Ok-Spent in
    let K = g.C.Keeper in let s = K.state c.args.cabinet.now in let t = K.state c.force.new.self in
    force_lasts (K.outlasts c.args.cabinet.now c.force.new.self) s t x.ensures.lasts c.known.ensures c.block_of-meta.result x.field-0 (search rules) x.ensures.forced

pub returns-in-Err-clause-lasts : goal.returns-in-Err-clause-lasts
returns-in-Err-clause-lasts g c =
    let x = c.in-Err in
    let K = g.C.Keeper in
    same_lasts (K.outlasts c.args.cabinet.now c.force.new.self) (K.state c.args.cabinet.now) (K.state c.force.new.self) c.force.ensures.lasts x.ensures.err
