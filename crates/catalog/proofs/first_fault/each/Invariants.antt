use Rattle.std.proofs.Common.{◌≡◌, [], take, drop}
use Rattle.catalog.specs.FirstFault.{each}
use Rattle.catalog.proofs.first_fault.each.Given as goal

abbrev pub invariant-loop-i : goal.invariant-loop-i
invariant-loop-i g l = each g.E.Entry.test (take l.i l.entries) (drop l.i l.entries) ≡ each g.E.Entry.test [] l.entries
