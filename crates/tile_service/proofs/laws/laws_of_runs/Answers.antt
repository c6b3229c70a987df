use Rattle.tile_service.proofs.Shapes.{history_like, refused_like, session_like}
use Rattle.tile_service.proofs.laws.laws_of_runs.Goals as goal

pub returns : goal.returns
returns c = record { history = history_like; refused = refused_like; session = session_like }
