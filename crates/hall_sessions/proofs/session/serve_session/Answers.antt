use Rattle.hall_sessions.proofs.Exchanging.{has_session}
use Rattle.hall_sessions.proofs.session.serve_session.Goals as goal

pub returns-clause-session : goal.returns-clause-session
returns-clause-session g c = has_session c.args.world.now.hall.catalogue c.args.world.now.recipes c.args.world.now.capabilities c.hold_session.ensures.held
