use Rattle.std.proofs.Common.{◌≡◌, ◌+◌, drop}
use Rattle.std.specs.List.{position_or_len}
use Rattle.std.specs.Str.{bytes_eq}
use Rattle.catalog.proofs.named.place_named.Given as goal

abbrev pub invariant-loop-i : goal.invariant-loop-i
invariant-loop-i g l = l.i + position_or_len (λ x. bytes_eq (g.T.Named.name x) l.name) (drop l.i l.entries) ≡ position_or_len (λ x. bytes_eq (g.T.Named.name x) l.name) l.entries
