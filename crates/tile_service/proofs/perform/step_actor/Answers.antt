use Rattle.std.proofs.Common.{IsSome, refl, sym, ◌∙◌, subst}
use Rattle.std.proofs.lemmas.List.{set-set}
use Rattle.tile_service.specs.declared.seats.Pending.{Pending}
use Rattle.tile_service.specs.declared.seats.ActorPlace.TheVariants.{Free}
use Rattle.tile_service.proofs.Performed.{stepped_performs, pending_fits, pending_within, set_there}
use Rattle.tile_requests.proofs.Moving.{advance_goes}
use Rattle.tile_service.proofs.perform.step_actor.Goals as goal

pub advance-step-requires-clause-busy : goal.advance-step-requires-clause-busy
advance-step-requires-clause-busy g c =
    let pending : Pending = c.in-Some.field-0 in
    let at = sym c.pending_at.ensures.pending ∙ c.in-Some.is in
    (pending_fits (g.C.Keeper.state c.args.counter.now.cabinet) c.args.counter.now.capabilities c.args.seats.now c.args.actor pending pending.actor c.requires.0 c.requires.1 at refl).0

pub advance-step-requires-clause-fits : goal.advance-step-requires-clause-fits
advance-step-requires-clause-fits g c =
    let pending : Pending = c.in-Some.field-0 in
    let at = sym c.pending_at.ensures.pending ∙ c.in-Some.is in
    (pending_fits (g.C.Keeper.state c.args.counter.now.cabinet) c.args.counter.now.capabilities c.args.seats.now c.args.actor pending pending.actor c.requires.0 c.requires.1 at refl).1

pub settle-requires : goal.settle-requires
settle-requires g c =
    let pending : Pending = c.in-Some.field-0 in
    let at = sym c.pending_at.ensures.pending ∙ c.in-Some.is in
    let busy = (pending_fits (g.C.Keeper.state c.args.counter.now.cabinet) c.args.counter.now.capabilities c.args.seats.now c.args.actor pending pending.actor c.requires.0 c.requires.1 at refl).0 in
    let free = c.pending_at.ensures.some (subst IsSome (sym c.in-Some.is) refl) in
    record {
      free = rw free (set_there c.args.seats.now c.args.actor Free (pending_within c.args.seats.now c.args.actor pending at));
      goes_on = advance_goes _ _ _ _ _ _ _ c.advance-step.result _ busy c.advance-step.ensures.advances;
    }

pub returns-in-Some-clause-performs : goal.returns-in-Some-clause-performs
returns-in-Some-clause-performs g c =
    let pending : Pending = c.in-Some.field-0 in
    let at = sym c.pending_at.ensures.pending ∙ c.in-Some.is in
    let free = c.pending_at.ensures.some (subst IsSome (sym c.in-Some.is) refl) in
    rw (c.settle.ensures.end, c.settle.ensures.seats, c.settle.ensures.cabinet, c.settle.ensures.faults, free, set-set c.args.seats.now c.args.actor _ _)
    (stepped_performs _ _ _ _ (g.C.Keeper.state c.args.counter.now.cabinet) (g.C.Keeper.state c.advance-step.new.cabinet) c.args.counter.now.capabilities c.args.seats.now c.args.n c.args.actor pending c.advance-step.result at c.advance-step.ensures.advances)
