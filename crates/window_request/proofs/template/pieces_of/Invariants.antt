use Rattle.std.proofs.Common.{◌-◌, length}
use Rattle.window_request.specs.Templates.{ReadSoFar}
use Rattle.window_request.proofs.template.pieces_of.Given as goal

abbrev pub invariant-reading : goal.invariant-reading
invariant-reading l = ReadSoFar l.text l.start l.pieces.items l.at

abbrev pub decreases-reading : goal.decreases-reading
decreases-reading l = length l.text - l.at
