use Rattle.std.proofs.Common.{◌≡◌, ◌++◌, length}
use Rattle.exception_report.specs.Report.{escaped}
use Rattle.exception_report.proofs.escape.escape_onto.Given as goal

-- what was written and what is left to write make up the whole
abbrev pub invariant-loop-rest : goal.invariant-loop-rest
invariant-loop-rest l = l.text.items ++ escaped l.rest ≡ l.fn.text.items ++ escaped l.fn.value

abbrev pub decreases-loop-rest : goal.decreases-loop-rest
decreases-loop-rest l = length l.rest
