use Rattle.std.proofs.Common.{subst}
use Rattle.cabinet.specs.declared.replies.Asked.{Asked}
use Rattle.cabinet_chest.specs.declared.command.Command.TheVariants as command
use Rattle.cabinet_chest.specs.declared.command.Reply.TheVariants as reply
use Rattle.cache_hall.specs.Turned.{GainsOne}
use Rattle.cache_hall.proofs.Turning.{stays_itself, stays_on, still_of}
use Rattle.cache_hall.proofs.Repeating.{waited, waits_first, waits_more, waits_on}
use Rattle.cache_hall.proofs.waiting.ask_until.Goals as goal

pub asking-init : goal.asking-init
asking-init g c = (tt, tt, stays_itself _, waits_first _ _ _)

pub ask-requires-clause-of : goal.ask-requires-clause-of
ask-requires-clause-of g c = still_of _ _ _ _ c.asking.invariant.2 c.requires.of

pub returns-in-Err-clause-waits : goal.returns-in-Err-clause-waits
returns-in-Err-clause-waits g c = waits_on _ _ _ _ _ c.asking.invariant.3 c.in-Err.ensures.refused

pub asking-preserved : goal.asking-preserved
asking-preserved g c =
    let one = subst (λ (x : Asked). GainsOne c.args.hall.now.catalogue c.asking.pass c.ask.new.pass (command.Ask c.args.address.now) (reply.Asked x)) c.in-Ok-Busy.field-0-is c.in-Ok-Busy.ensures.done in
    (tt, tt, stays_on _ _ _ c.asking.invariant.2 c.ask.ensures.stays, waits_more _ _ _ _ _ c.asking.invariant.3 c.in-Ok-Busy.field-0-0 one)

pub returns-in-Ok-Hit-clause-waits : goal.returns-in-Ok-Hit-clause-waits
returns-in-Ok-Hit-clause-waits g c =
    let one = subst (λ (x : Asked). GainsOne c.args.hall.now.catalogue c.asking.pass c.ask.new.pass (command.Ask c.args.address.now) (reply.Asked x)) c.in-Ok-Hit.field-0-is c.in-Ok-Hit.ensures.done in
    waited _ _ _ _ _ c.asking.invariant.3 _ one tt

pub returns-in-Ok-Ticket-clause-waits : goal.returns-in-Ok-Ticket-clause-waits
returns-in-Ok-Ticket-clause-waits g c =
    let one = subst (λ (x : Asked). GainsOne c.args.hall.now.catalogue c.asking.pass c.ask.new.pass (command.Ask c.args.address.now) (reply.Asked x)) c.in-Ok-Ticket.field-0-is c.in-Ok-Ticket.ensures.done in
    waited _ _ _ _ _ c.asking.invariant.3 _ one tt

pub returns-in-Ok-Spent-clause-waits : goal.returns-in-Ok-Spent-clause-waits
returns-in-Ok-Spent-clause-waits g c =
    let one = subst (λ (x : Asked). GainsOne c.args.hall.now.catalogue c.asking.pass c.ask.new.pass (command.Ask c.args.address.now) (reply.Asked x)) c.in-Ok-Spent.field-0-is c.in-Ok-Spent.ensures.done in
    waited _ _ _ _ _ c.asking.invariant.3 _ one tt
