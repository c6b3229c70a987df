use Rattle.std.proofs.Common.{◌≡◌, arith, refl, ◌∙◌}
use Rattle.tile_requests.specs.Routes.{request_for}
use Rattle.tile_service.proofs.Served.{answered_serves, unread_serves}
use Rattle.tile_service.proofs.serving.serve.Goals as goal

pub returns-in_default-clause-serves : goal.returns-in_default-clause-serves
returns-in_default-clause-serves g c = unread_serves _ _ c.args.counter.now.capabilities (g.C.Keeper.state c.args.counter.now.cabinet) c.args.message.now c.requires.rest _ (omega arith)

pub returns-clause-serves : goal.returns-clause-serves
returns-clause-serves g c =
    let s = g.C.Keeper.state c.args.counter.now.cabinet in
    let m = c.args.message.now in
    let asks : c.in-Ok.request ≡ request_for s.catalogue m = c.in-Ok.ensures.value ∙ rw (c.catalogue-catalogue.ensures, c.of-parts.ensures.method, c.of-parts.ensures.target, c.of-parts.ensures.body) refl in
    answered_serves _ _ c.args.counter.now.capabilities s m c.requires.rest _ _ c.in-Ok.request _ _ asks c.answer_request.ensures.answers
