use Rattle.std.proofs.Common.{◌≡◌, map}
use Rattle.config_text.proofs.matrices.parted.Given as goal

abbrev pub invariant-loop-named : goal.invariant-loop-named
invariant-loop-named l = record {
  names : l.names.items ≡ map (λ m. m.id) l.yielded;
  matrices : l.matrices.items ≡ map (λ m. m.matrix) l.yielded;
}
