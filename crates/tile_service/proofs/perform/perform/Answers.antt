use Rattle.std.proofs.Common.{Some, arith, sym, ap, ◌∙◌}
use Rattle.std.specs.Option.{option_map}
use Rattle.tile_service.specs.Shown.{shown_action}
use Rattle.tile_service.proofs.Performed.{idle_performs}
use Rattle.tile_service.proofs.perform.perform.Goals as goal

pub returns-in-Some-Nothing-clause-performs : goal.returns-in-Some-Nothing-clause-performs
returns-in-Some-Nothing-clause-performs g c =
    let e = sym c.action_in.ensures ∙ ap (option_map shown_action) (c.in-Some-Nothing.is ∙ ap Some c.in-Some-Nothing.field-0-is) in
    rw e (idle_performs _ _ _ (omega arith) (g.C.Keeper.state c.args.counter.now.cabinet) c.args.counter.now.capabilities c.args.seats.now c.args.n)

pub returns-in-Some-Sends-clause-performs : goal.returns-in-Some-Sends-clause-performs
returns-in-Some-Sends-clause-performs g c =
    let e = sym c.action_in.ensures ∙ ap (option_map shown_action) (c.in-Some-Sends.is ∙ ap Some c.in-Some-Sends.field-0-is) in
    rw e c.send_message.ensures.performs
