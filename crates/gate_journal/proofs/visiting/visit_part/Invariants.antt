use Rattle.gate_journal.specs.Visiting.{VisitsPart}
use Rattle.gate_journal.proofs.visiting.visit_part.Given as goal

abbrev pub invariant-loop-k : goal.invariant-loop-k
invariant-loop-k g l = VisitsPart g.V.Visit.visits l.found l.before l.k l.count l.slots l.fn.visit l.visit l.records
