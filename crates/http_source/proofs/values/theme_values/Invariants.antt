use Rattle.std.proofs.Common.{◌≡◌, ◌++◌, drop, map}
use Rattle.http_source.specs.Asked.{named_value, theme_values}
use Rattle.http_source.proofs.values.theme_values.Given as goal

-- those that are left give the rest
abbrev pub invariant-loop-place : goal.invariant-loop-place
invariant-loop-place l = map named_value l.values.items ++ theme_values (drop l.place l.dimensions) (drop l.place l.numbers) ≡ theme_values l.dimensions l.numbers
