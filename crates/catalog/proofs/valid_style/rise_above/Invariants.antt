use Rattle.std.proofs.Common.{◌≡◌, drop}
use Rattle.catalog.specs.FirstFault.{rise_above}
use Rattle.catalog.proofs.valid_style.rise_above.Given as goal

abbrev pub invariant-loop-colour : goal.invariant-loop-colour
invariant-loop-colour l = rise_above l.last (drop l.colour-index l.breaks) ≡ rise_above l.least l.breaks
