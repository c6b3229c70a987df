use Rattle.tile_service.proofs.Replaying.{has_lasted, replayed, same_catalogue}
use Rattle.tile_service.proofs.session.replay_session.Goals as goal

pub returns-clause-leads : goal.returns-clause-leads
returns-clause-leads g c =
    replayed g.C.Keeper.outlasts g.C.Keeper.state g.C.Keeper.faults (λ counter. counter.cabinet) (λ counter. counter.capabilities) _ c.laws_of_lasting.ensures.itself c.laws_of_lasting.ensures.on _ c.hold_session.ensures.held

pub returns-clause-session : goal.returns-clause-session
returns-clause-session g c = (returns-clause-leads g c).0

pub returns-clause-catalogue : goal.returns-clause-catalogue
returns-clause-catalogue g c =
    same_catalogue g.C.Keeper.outlasts g.C.Keeper.state g.C.Keeper.faults (λ counter. counter.cabinet) (λ counter. counter.capabilities) _ c.laws_of_lasting.ensures.itself c.laws_of_lasting.ensures.on _ c.hold_session.ensures.held

pub returns-clause-lasts : goal.returns-clause-lasts
returns-clause-lasts g c =
    has_lasted g.C.Keeper.outlasts g.C.Keeper.state g.C.Keeper.faults (λ counter. counter.cabinet) (λ counter. counter.capabilities) _ c.laws_of_lasting.ensures.itself c.laws_of_lasting.ensures.on _ c.hold_session.ensures.held
