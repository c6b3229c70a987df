use Rattle.cabinet_records.specs.Aiming.{AreAimed, IsZoomOn}
use Rattle.cabinet_records.proofs.replay.aiming.aim_down.Given as goal

abbrev pub invariant-aiming : goal.invariant-aiming
invariant-aiming l = record { zoom : IsZoomOn l.grid l.aims.zoom; aimed : AreAimed l.cuts.book.cuts l.aims }

abbrev pub decreases-aiming : goal.decreases-aiming
decreases-aiming l = l.aims.left
