use Rattle.std.proofs.Common.{subst}
use Rattle.cabinet.specs.declared.replies.Forced.{Forced}
use Rattle.cabinet_chest.specs.declared.command.Command.TheVariants as command
use Rattle.cabinet_chest.specs.declared.command.Reply.TheVariants as reply
use Rattle.cache_hall.specs.Turned.{GainsOne}
use Rattle.cache_hall.proofs.Turning.{stays_itself, stays_on, still_of}
use Rattle.cache_hall.proofs.Repeating.{forced_at_last, forces_first, forces_more, forces_on}
use Rattle.cache_hall.proofs.waiting.force_until.Goals as goal

pub forcing-init : goal.forcing-init
forcing-init g c = (tt, tt, stays_itself _, forces_first _ _ _)

pub force-requires-clause-of : goal.force-requires-clause-of
force-requires-clause-of g c = still_of _ _ _ _ c.forcing.invariant.2 c.requires.of

pub returns-in-Err-clause-waits : goal.returns-in-Err-clause-waits
returns-in-Err-clause-waits g c = forces_on _ _ _ _ _ c.forcing.invariant.3 c.in-Err.ensures.refused

pub forcing-preserved : goal.forcing-preserved
forcing-preserved g c =
    let one = subst (λ (x : Forced). GainsOne c.args.hall.now.catalogue c.forcing.pass c.force.new.pass (command.Force c.args.meta.now) (reply.Forced x)) c.in-Ok-Busy.field-0-is c.in-Ok-Busy.ensures.done in
    (tt, tt, stays_on _ _ _ c.forcing.invariant.2 c.force.ensures.stays, forces_more _ _ _ _ _ c.forcing.invariant.3 c.in-Ok-Busy.field-0-0 one)

pub returns-in-Ok-Ticket-clause-waits : goal.returns-in-Ok-Ticket-clause-waits
returns-in-Ok-Ticket-clause-waits g c =
    let one = subst (λ (x : Forced). GainsOne c.args.hall.now.catalogue c.forcing.pass c.force.new.pass (command.Force c.args.meta.now) (reply.Forced x)) c.in-Ok-Ticket.field-0-is c.in-Ok-Ticket.ensures.done in
    forced_at_last _ _ _ _ _ c.forcing.invariant.3 _ one tt

pub returns-in-Ok-Spent-clause-waits : goal.returns-in-Ok-Spent-clause-waits
returns-in-Ok-Spent-clause-waits g c =
    let one = subst (λ (x : Forced). GainsOne c.args.hall.now.catalogue c.forcing.pass c.force.new.pass (command.Force c.args.meta.now) (reply.Forced x)) c.in-Ok-Spent.field-0-is c.in-Ok-Spent.ensures.done in
    forced_at_last _ _ _ _ _ c.forcing.invariant.3 _ one tt
