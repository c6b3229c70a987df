use Rattle.std.proofs.Common.{◌≡◌, drop}
use Rattle.std.specs.Prelude.{false}
use Rattle.ppm_reading.specs.Reading.{after_blanks}
use Rattle.ppm_reading.proofs.gaps.after_blanks.Given as goal

abbrev pub invariant-loop-at : goal.invariant-loop-at
invariant-loop-at l = after_blanks l.in_comment (drop l.at l.text) ≡ after_blanks false l.text
