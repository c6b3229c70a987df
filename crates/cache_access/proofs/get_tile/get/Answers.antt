use Rattle.std.proofs.Common.{◌≡◌, Some, subst}
use Rattle.cabinet.specs.declared.replies.Asked.{Asked}
use Rattle.cabinet.specs.Commands.{IsTrueHit}
use Rattle.catalog.specs.declared.catalogue.Catalogue.{Catalogue}
use Rattle.cache_access.specs.Made.{Makes}
use Rattle.cache_access.specs.Waits.{HasWaited}
use Rattle.cache_access.proofs.Asked.{ticket_for}
use Rattle.cache_access.proofs.Getting.{got_kept, got_made, got_no_memory, got_spent}
use Rattle.cache_access.proofs.get_tile.get.Goals as goal

pub make-requires-clause-ticket : goal.make-requires-clause-ticket
make-requires-clause-ticket g c =
    let A = g.A.Access in
    let way = c.args.access.now in
    let had = subst (λ (x : Asked). HasWaited (A.gains way) c.args.address.now c.args.cache.now c.ask.new.cache x) c.in-Ok-Ticket.field-0-is c.in-Ok-Ticket.ensures.waits in
    ticket_for (A.gains way) (A.seen way) _ _ _ _ _ _ c.in-Ok-Ticket.ensures.goes.same (A.are_turns way c.args.cache.now c.ask.new.cache) had

pub returns-in-Ok-Hit-clause-gets : goal.returns-in-Ok-Hit-clause-gets
returns-in-Ok-Hit-clause-gets g c =
    let A = g.A.Access in
    let way = c.args.access.now in
    let had = subst (λ (x : Asked). HasWaited (A.gains way) c.args.address.now c.args.cache.now c.ask.new.cache x) c.in-Ok-Hit.field-0-is c.in-Ok-Hit.ensures.waits in
    let truth = subst (λ (x : Asked). A.sound way c.args.cache.now → IsTrueHit (A.catalogue way c.args.cache.now) c.args.address.now x) c.in-Ok-Hit.field-0-is c.in-Ok-Hit.ensures.truth in
    got_kept _ _ c.requires.valid c.requires.tile (A.gains way) (A.seen way) _ _ _ (A.are_turns way c.args.cache.now) _ c.in-Ok-Hit.number c.in-Ok-Hit.bytes had (λ sound. truth sound.0)

pub returns-in-Ok-Ticket-clause-gets : goal.returns-in-Ok-Ticket-clause-gets
returns-in-Ok-Ticket-clause-gets g c =
    let A = g.A.Access in
    let way = c.args.access.now in
    let had = subst (λ (x : Asked). HasWaited (A.gains way) c.args.address.now c.args.cache.now c.ask.new.cache x) c.in-Ok-Ticket.field-0-is c.in-Ok-Ticket.ensures.waits in
    let made = subst (λ (d : Catalogue). Makes (A.gains way) d (g.S.Source.gave c.make.new.source) (g.S.Source.told c.args.source.now ≡ Some d.source) c.args.address.now c.in-Ok-Ticket.ticket c.ask.new.cache c.make.new.cache c.make.result) c.in-Ok-Ticket.ensures.goes.same c.make.ensures.makes in
    got_made _ _ c.requires.valid c.requires.tile (A.gains way) (A.seen way) _ _ _ (A.are_turns way c.args.cache.now) (g.S.Source.told c.args.source.now ≡ Some (A.catalogue way c.args.cache.now).source) (λ sound. sound.1) _ _
    (A.gains_on way c.args.cache.now c.ask.new.cache c.make.new.cache) c.in-Ok-Ticket.ticket had _ made

pub returns-in-Err-clause-gets : goal.returns-in-Err-clause-gets
returns-in-Err-clause-gets g c =
    let A = g.A.Access in
    let way = c.args.access.now in
    got_no_memory _ _ c.requires.valid c.requires.tile (A.gains way) (A.seen way) _ _ _ (A.are_turns way c.args.cache.now) _ c.in-Err.ensures.waits

pub returns-in-Ok-Spent-clause-gets : goal.returns-in-Ok-Spent-clause-gets
returns-in-Ok-Spent-clause-gets g c =
    let A = g.A.Access in
    let way = c.args.access.now in
    let had = subst (λ (x : Asked). HasWaited (A.gains way) c.args.address.now c.args.cache.now c.ask.new.cache x) c.in-Ok-Spent.field-0-is c.in-Ok-Spent.ensures.waits in
    got_spent _ _ c.requires.valid c.requires.tile (A.gains way) (A.seen way) _ _ _ (A.are_turns way c.args.cache.now) _ had
