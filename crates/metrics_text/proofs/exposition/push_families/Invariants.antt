use Rattle.std.proofs.Common.{◌≡◌, ◌++◌, flat_map, take}
use Rattle.metrics_text.specs.Exposition.{ended, lines_of}
use Rattle.metrics_text.proofs.exposition.push_families.Given as goal

abbrev pub invariant-loop-family : goal.invariant-loop-family
invariant-loop-family l = l.text.items ≡ l.fn.text.items ++ flat_map (λ f. flat_map ended (lines_of f)) (take l.family-index l.families)
