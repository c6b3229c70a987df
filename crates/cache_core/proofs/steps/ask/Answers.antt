use Rattle.std.proofs.Common.{subst}
use Rattle.cabinet.specs.Commands.{Asks, IsFreshReply, IsTrueHit}
use Rattle.cabinet.specs.declared.replies.Asked.{Asked}
use Rattle.cabinet.specs.State.{IsSound}
use Rattle.cache_core.proofs.Beginnings.{busy_asked, hit_asked, spent_asked, ticket_asked}
use Rattle.cache_core.proofs.Lasting.{ask_lasts, same_lasts}
use Rattle.cache_core.proofs.steps.ask.Goals as goal

pub returns-in-Ok-Ticket-clause-begins : goal.returns-in-Ok-Ticket-clause-begins
returns-in-Ok-Ticket-clause-begins g c =
    let x = c.in-Ok-Ticket in
    let s = g.C.Keeper.state c.args.cabinet.now in let t = g.C.Keeper.state c.ask.new.self in let b = g.C.Keeper.faults c.args.cabinet.now in let a = g.C.Keeper.faults c.ask.new.self in
    let P : Asked → Type 0 = λ r. Asks b a s c.args.address.now r t in
    let R : Asked → Type 0 = λ r. IsFreshReply s c.args.address.now r t in
    let row = subst P x.field-0-is x.ensures.asked in
    ticket_asked b a x.ensures.later s t t.clock.moment c.args.address.now x.ticket c.goes_on-in-Ok-Ticket.result c.requires row.1 c.goes_on-in-Ok-Ticket.ensures.actor c.goes_on-in-Ok-Ticket.ensures.outcome (subst R x.field-0-is x.ensures.fresh) row.0

pub returns-in-Ok-Hit-clause-begins : goal.returns-in-Ok-Hit-clause-begins
returns-in-Ok-Hit-clause-begins g c =
    let x = c.in-Ok-Hit in
    let s = g.C.Keeper.state c.args.cabinet.now in let t = g.C.Keeper.state c.ask.new.self in let b = g.C.Keeper.faults c.args.cabinet.now in let a = g.C.Keeper.faults c.ask.new.self in
    let P : Asked → Type 0 = λ r. Asks b a s c.args.address.now r t in
    let Q : Asked → Type 0 = λ r. IsSound s → IsTrueHit s.catalogue c.args.address.now r in
    let R : Asked → Type 0 = λ r. IsFreshReply s c.args.address.now r t in
    let row = subst P x.field-0-is x.ensures.asked in
    hit_asked b a x.ensures.later s t t.clock.moment c.args.address.now x.number x.bytes c.hit.result c.requires row c.hit.ensures.actor c.hit.ensures.outcome (subst Q x.field-0-is x.ensures.sound) (subst R x.field-0-is x.ensures.fresh)

pub returns-in-Ok-Busy-clause-begins : goal.returns-in-Ok-Busy-clause-begins
returns-in-Ok-Busy-clause-begins g c =
    let x = c.in-Ok-Busy in
    let s = g.C.Keeper.state c.args.cabinet.now in let t = g.C.Keeper.state c.ask.new.self in let b = g.C.Keeper.faults c.args.cabinet.now in let a = g.C.Keeper.faults c.ask.new.self in
    let P : Asked → Type 0 = λ r. Asks b a s c.args.address.now r t in
    let row = subst P x.field-0-is x.ensures.asked in
    busy_asked b a x.ensures.later s t t.clock.moment c.args.address.now c.goes_on.result c.requires x.field-0-0 row.0 row.1 c.goes_on.ensures.actor c.goes_on.ensures.outcome

pub returns-in-Ok-Spent-clause-begins : goal.returns-in-Ok-Spent-clause-begins
returns-in-Ok-Spent-clause-begins g c =
    let x = c.in-Ok-Spent in
    let s = g.C.Keeper.state c.args.cabinet.now in let t = g.C.Keeper.state c.ask.new.self in let b = g.C.Keeper.faults c.args.cabinet.now in let a = g.C.Keeper.faults c.ask.new.self in
    let P : Asked → Type 0 = λ r. Asks b a s c.args.address.now r t in
    let row = subst P x.field-0-is x.ensures.asked in
    spent_asked b a x.ensures.later s t t.clock.moment c.args.address.now c.ends-in-Ok-Spent.result c.requires row.0 row.1 c.ends-in-Ok-Spent.ensures.actor c.ends-in-Ok-Spent.ensures.outcome

pub returns-in-Ok-Ticket-clause-lasts : goal.returns-in-Ok-Ticket-clause-lasts
returns-in-Ok-Ticket-clause-lasts g c =
    let x = c.in-Ok-Ticket in
    let K = g.C.Keeper in let s = K.state c.args.cabinet.now in let t = K.state c.ask.new.self in
    ask_lasts (K.outlasts c.args.cabinet.now c.ask.new.self) s t x.ensures.lasts c.known.ensures (K.faults c.args.cabinet.now) (K.faults c.ask.new.self) c.args.address.now x.field-0 c.requires x.ensures.asked

pub returns-in-Ok-Hit-clause-lasts : goal.returns-in-Ok-Hit-clause-lasts
returns-in-Ok-Hit-clause-lasts g c =
    let x = c.in-Ok-Hit in
    let K = g.C.Keeper in let s = K.state c.args.cabinet.now in let t = K.state c.ask.new.self in
    ask_lasts (K.outlasts c.args.cabinet.now c.ask.new.self) s t x.ensures.lasts c.known.ensures (K.faults c.args.cabinet.now) (K.faults c.ask.new.self) c.args.address.now x.field-0 c.requires x.ensures.asked

pub returns-in-Ok-Busy-clause-lasts : goal.returns-in-Ok-Busy-clause-lasts
returns-in-Ok-Busy-clause-lasts g c =
    let x = c.in-Ok-Busy in
    let K = g.C.Keeper in let s = K.state c.args.cabinet.now in let t = K.state c.ask.new.self in
    ask_lasts (K.outlasts c.args.cabinet.now c.ask.new.self) s t x.ensures.lasts c.known.ensures (K.faults c.args.cabinet.now) (K.faults c.ask.new.self) c.args.address.now x.field-0 c.requires x.ensures.asked

pub returns-in-Ok-Spent-clause-lasts : goal.returns-in-Ok-Spent-clause-lasts
returns-in-Ok-Spent-clause-lasts g c =
    let x = c.in-Ok-Spent in
    let K = g.C.Keeper in let s = K.state c.args.cabinet.now in let t = K.state c.ask.new.self in
    ask_lasts (K.outlasts c.args.cabinet.now c.ask.new.self) s t x.ensures.lasts c.known.ensures (K.faults c.args.cabinet.now) (K.faults c.ask.new.self) c.args.address.now x.field-0 c.requires x.ensures.asked

pub returns-in-Err-clause-lasts : goal.returns-in-Err-clause-lasts
returns-in-Err-clause-lasts g c =
    let x = c.in-Err in
    let K = g.C.Keeper in
    same_lasts (K.outlasts c.args.cabinet.now c.ask.new.self) (K.state c.args.cabinet.now) (K.state c.ask.new.self) c.ask.ensures.lasts x.ensures.err
