use Rattle.std.proofs.Common.{◌≡◌, drop, find}
use Rattle.schedule_text.specs.Line.{has_form}
use Rattle.schedule_text.proofs.verb.first_of.Given as goal

abbrev pub invariant-loop-verb : goal.invariant-loop-verb
invariant-loop-verb l = find (λ verb. has_form verb l.text) (drop l.verb-index l.verbs) ≡ find (λ verb. has_form verb l.text) l.verbs
