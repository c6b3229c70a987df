use Rattle.std.proofs.Common.{◌≡◌, take}
use Rattle.cabinet.proofs.start.trace_of_kept.Given as goal

abbrev pub invariant-noting : goal.invariant-noting
invariant-noting l = record { entries : l.notes.entries ≡ take l.at l.kept }
