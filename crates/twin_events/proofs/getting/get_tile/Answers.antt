use Rattle.std.proofs.Common.{subst}
use Rattle.cabinet.specs.Commands.{Asks, IsFreshReply}
use Rattle.cabinet.specs.declared.replies.Asked.{Asked}
use Rattle.cache_core.proofs.Lasting.{ask_lasts}
use Rattle.twin_events.specs.Gets.{failures}
use Rattle.twin_events.proofs.Answering.{ticket_gets}
use Rattle.twin_events.proofs.getting.get_tile.Goals as goal

pub returns-in-Ok-Hit-clause-lasts : goal.returns-in-Ok-Hit-clause-lasts
returns-in-Ok-Hit-clause-lasts g c =
    let x = c.in-Ok-Hit in
    let K = g.K.Keeper in let s = K.state c.args.cabinet.now in let t = K.state c.ask.new.self in
    ask_lasts (K.outlasts c.args.cabinet.now c.ask.new.self) s t x.ensures.lasts c.known.ensures (K.faults c.args.cabinet.now) (K.faults c.ask.new.self) c.args.address.now x.field-0 c.requires.tile x.ensures.asked

pub returns-in-Ok-Ticket-clause-gets : goal.returns-in-Ok-Ticket-clause-gets
returns-in-Ok-Ticket-clause-gets g c =
    let x = c.in-Ok-Ticket in
    let K = g.K.Keeper in let S = g.S.Source in let s = K.state c.args.cabinet.now in let mid = K.state c.ask.new.self in let b = K.faults c.args.cabinet.now in let n = K.faults c.ask.new.self in
    let P : Asked → Type 0 = λ r. Asks b n s c.args.address.now r mid in
    let R : Asked → Type 0 = λ r. IsFreshReply s c.args.address.now r mid in
    ticket_gets s mid c.args.address.now x.ticket b n c.known.ensures c.requires.tile (subst P x.field-0-is x.ensures.asked) (S.told c.args.source.now) (S.faults c.args.source.now)
    (failures (S.faults c.end_render.new.source) (K.faults c.end_render.new.cabinet)) (K.state c.end_render.new.cabinet) (subst R x.field-0-is x.ensures.fresh) c.end_render.result c.end_render.ensures.ends

pub returns-in-Ok-Ticket-clause-lasts : goal.returns-in-Ok-Ticket-clause-lasts
returns-in-Ok-Ticket-clause-lasts g c =
    let x = c.in-Ok-Ticket in
    let K = g.K.Keeper in let s = K.state c.args.cabinet.now in let t = K.state c.ask.new.self in
    c.laws_of_lasting.ensures.on _ _ _ (ask_lasts (K.outlasts c.args.cabinet.now c.ask.new.self) s t x.ensures.lasts c.known.ensures (K.faults c.args.cabinet.now) (K.faults c.ask.new.self) c.args.address.now x.field-0 c.requires.tile x.ensures.asked) c.end_render.ensures.lasts
