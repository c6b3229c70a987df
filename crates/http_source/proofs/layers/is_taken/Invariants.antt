use Rattle.std.proofs.Common.{◌≡◌, drop}
use Rattle.http_source.specs.Forms.{is_taken}
use Rattle.http_source.proofs.layers.is_taken.Given as goal

abbrev pub invariant-loop-entry : goal.invariant-loop-entry
invariant-loop-entry l = is_taken (drop l.entry-index l.before) l.layer ≡ is_taken l.before l.layer
