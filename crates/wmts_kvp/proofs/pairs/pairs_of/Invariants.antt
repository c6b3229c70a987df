use Rattle.std.proofs.Common.{◌≡◌, ◌++◌}
use Rattle.form_urlencoded.specs.Parse.{owned_pairs_left}
use Rattle.wmts_kvp.specs.Pairs.{pairs_of, decoded}
use Rattle.wmts_kvp.proofs.pairs.pairs_of.Given as goal

-- the pairs so far and those that are left make up the whole
abbrev pub invariant-loop-pair : goal.invariant-loop-pair
invariant-loop-pair l = l.pairs.items ++ decoded (owned_pairs_left l.pair-iterator) ≡ pairs_of l.query
