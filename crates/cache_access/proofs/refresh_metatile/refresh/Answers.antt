use Rattle.std.proofs.Common.{◌≡◌, Some, subst, sym}
use Rattle.catalog.specs.declared.catalogue.Catalogue.{Catalogue}
use Rattle.metatile_plan.specs.declared.metatile.MetaKey.{MetaKey}
use Rattle.raster_field.specs.Blocks.{IsMeta}
use Rattle.cache_access.specs.declared.requesting.Requested.{Requested}
use Rattle.cache_access.specs.Made.{Remakes}
use Rattle.cache_access.specs.Requested.{HasAwaited}
use Rattle.cache_access.proofs.Refreshing.{refreshed_kept, refreshed_made, refreshed_no_memory, refreshed_spent, ticket_meta}
use Rattle.cache_access.proofs.refresh_metatile.refresh.Goals as goal

pub remake-requires-clause-meta : goal.remake-requires-clause-meta
remake-requires-clause-meta g c =
    let A = g.A.Access in
    let way = c.args.access.now in
    let had = subst (λ (x : Requested). HasAwaited (A.gains way) (A.catalogue way c.args.cache.now) c.args.meta.now c.args.is_forced c.args.cache.now c.request.new.cache x) c.in-Ok-Ticket.field-0-is c.in-Ok-Ticket.ensures.waits in
    let is = ticket_meta _ _ c.requires.valid c.requires.meta (A.gains way) (A.seen way) (g.S.Source.gave c.args.source.now) (A.sound way c.args.cache.now) _ (A.are_turns way c.args.cache.now) _ _ _ had in
    subst (λ (m : MetaKey). IsMeta (A.catalogue way c.request.new.cache) m) (sym is) (subst (λ (d : Catalogue). IsMeta d c.args.meta.now) (sym c.in-Ok-Ticket.ensures.goes.same) c.requires.meta)

pub returns-in-Ok-Kept-clause-refreshes : goal.returns-in-Ok-Kept-clause-refreshes
returns-in-Ok-Kept-clause-refreshes g c =
    let A = g.A.Access in
    let way = c.args.access.now in
    let had = subst (λ (x : Requested). HasAwaited (A.gains way) (A.catalogue way c.args.cache.now) c.args.meta.now c.args.is_forced c.args.cache.now c.request.new.cache x) c.in-Ok-Kept.field-0-is c.in-Ok-Kept.ensures.waits in
    refreshed_kept _ _ c.requires.valid c.requires.meta (A.gains way) (A.seen way) _ _ _ (A.are_turns way c.args.cache.now) _ _ c.in-Ok-Kept.number had

pub returns-in-Ok-Ticket-clause-refreshes : goal.returns-in-Ok-Ticket-clause-refreshes
returns-in-Ok-Ticket-clause-refreshes g c =
    let A = g.A.Access in
    let way = c.args.access.now in
    let had = subst (λ (x : Requested). HasAwaited (A.gains way) (A.catalogue way c.args.cache.now) c.args.meta.now c.args.is_forced c.args.cache.now c.request.new.cache x) c.in-Ok-Ticket.field-0-is c.in-Ok-Ticket.ensures.waits in
    let made = subst (λ (d : Catalogue). Remakes (A.gains way) d (g.S.Source.gave c.remake.new.source) (g.S.Source.told c.args.source.now ≡ Some d.source) c.in-Ok-Ticket.ticket c.request.new.cache c.remake.new.cache c.remake.result) c.in-Ok-Ticket.ensures.goes.same c.remake.ensures.makes in
    refreshed_made _ _ c.requires.valid c.requires.meta (A.gains way) (A.seen way) _ _ _ (A.are_turns way c.args.cache.now) _ _ c.in-Ok-Ticket.ticket had (g.S.Source.told c.args.source.now ≡ Some (A.catalogue way c.args.cache.now).source) (λ sound. sound.1) _
    (A.gains_on way c.args.cache.now c.request.new.cache c.remake.new.cache) _ made

pub returns-in-Err-clause-refreshes : goal.returns-in-Err-clause-refreshes
returns-in-Err-clause-refreshes g c =
    let A = g.A.Access in
    let way = c.args.access.now in
    refreshed_no_memory _ _ c.requires.valid c.requires.meta (A.gains way) (A.seen way) _ _ _ (A.are_turns way c.args.cache.now) _ _ c.in-Err.ensures.waits

pub returns-in-Ok-Spent-clause-refreshes : goal.returns-in-Ok-Spent-clause-refreshes
returns-in-Ok-Spent-clause-refreshes g c =
    let A = g.A.Access in
    let way = c.args.access.now in
    let had = subst (λ (x : Requested). HasAwaited (A.gains way) (A.catalogue way c.args.cache.now) c.args.meta.now c.args.is_forced c.args.cache.now c.request.new.cache x) c.in-Ok-Spent.field-0-is c.in-Ok-Spent.ensures.waits in
    refreshed_spent _ _ c.requires.valid c.requires.meta (A.gains way) (A.seen way) _ _ _ (A.are_turns way c.args.cache.now) _ _ had
