use Rattle.std.proofs.Common.{◌≡◌, ◌++◌}
use Rattle.std.specs.Prelude.{zip}
use Rattle.std.specs.Iterator.Adapters.{zip_first, zip_second}
use Rattle.std.specs.Slice.Iter.{iter_rest}
use Rattle.wmts_rest.specs.Paths.{pairs_under}
use Rattle.wmts_rest.proofs.spelling.pairs_under.Given as goal

-- the pairs so far and those that are left
abbrev pub invariant-loop-name : goal.invariant-loop-name
invariant-loop-name l =
    l.pairs.items ++ zip (iter_rest (zip_first l.name-iterator)) (iter_rest (zip_second l.name-iterator)) ≡ pairs_under l.names l.texts
