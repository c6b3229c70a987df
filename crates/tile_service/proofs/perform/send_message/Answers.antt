use Rattle.std.proofs.Common.{arith, rules, refl, ap, ◌∙◌}
use Rattle.tile_requests.specs.Routes.{request_for}
use Rattle.tile_requests.specs.Shown.{shown_message}
use Rattle.tile_service.proofs.Performed.{unread_performs, asked_performs}
use Rattle.tile_service.proofs.perform.send_message.Goals as goal

pub returns-in_default-clause-performs : goal.returns-in_default-clause-performs
returns-in_default-clause-performs g c =
    rw (c.answer_in_line.ensures, c.spelling_at-spelling.ensures) (unread_performs _ _ (g.C.Keeper.state c.args.counter.now.cabinet) c.args.counter.now.capabilities c.args.seats.now c.args.n c.args.mode c.args.actor (shown_message c.args.message.now) refl (search rules) _ (omega arith))

pub returns-clause-performs : goal.returns-clause-performs
returns-clause-performs g c =
    asked_performs _ _ (g.C.Keeper.state c.args.counter.now.cabinet) c.args.counter.now.capabilities c.args.seats.now c.args.n c.args.mode c.args.actor (shown_message c.args.message.now) refl (search rules)
    _ _ (g.C.Keeper.state c.start_request.new.counter.cabinet) c.start_request.new.seats c.start_request.result c.in-Ok.request (c.in-Ok.ensures.value ∙ ap (λ k. request_for k (shown_message c.args.message.now)) c.catalogue-catalogue.ensures) (rw c.spelling_at-spelling.ensures at c.start_request.ensures.asked)
