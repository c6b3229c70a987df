use Rattle.std.proofs.Common.{◌≡◌, drop}
use Rattle.catalog.specs.Names.{is_taken}
use Rattle.catalog.proofs.named.is_taken.Given as goal

abbrev pub invariant-loop-entry : goal.invariant-loop-entry
invariant-loop-entry g l = is_taken g.T.Named.name (drop l.entry-index l.entries) l.name ≡ is_taken g.T.Named.name l.entries l.name
