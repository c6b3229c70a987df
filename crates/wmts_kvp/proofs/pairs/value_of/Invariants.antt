use Rattle.std.proofs.Common.{◌≡◌, drop}
use Rattle.wmts_kvp.specs.Pairs.{value_of}
use Rattle.wmts_kvp.proofs.pairs.value_of.Given as goal

-- the pairs so far have other names
abbrev pub invariant-loop-key : goal.invariant-loop-key
invariant-loop-key l = value_of (drop l.key-index l.pairs) l.name ≡ value_of l.pairs l.name
