use Rattle.std.proofs.Common.{sym}
use Rattle.tile_service.proofs.streams.replay_over.Goals as goal

pub returns-clause-leads : goal.returns-clause-leads
returns-clause-leads g c = rw (sym c.new-link.ensures, c.into_ends.ensures) c.replay_session-end.ensures.leads
