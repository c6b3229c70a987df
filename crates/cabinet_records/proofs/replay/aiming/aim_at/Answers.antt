use Rattle.std.proofs.Common.{subst, sym}
use Rattle.cabinet_records.specs.Aiming.{IsZoomOn}
use Rattle.cabinet_records.proofs.replay.aiming.aim_at.Goals as goal

pub aim_down-requires-clause-zoom : goal.aim_down-requires-clause-zoom
aim_down-requires-clause-zoom c = subst (IsZoomOn c.args.grid.now) (sym (c.is_same.ensures (cc (c.if-is_same.true)))) c.requires.zoom
