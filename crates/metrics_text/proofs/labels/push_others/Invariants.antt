use Rattle.std.proofs.Common.{◌≡◌, ◌++◌, codes, flat_map, take}
use Rattle.metrics_text.specs.Exposition.{label_text}
use Rattle.metrics_text.proofs.labels.push_others.Given as goal

abbrev pub invariant-loop-label : goal.invariant-loop-label
invariant-loop-label l = l.text.items ≡ l.fn.text.items ++ flat_map (λ k. codes "," ++ label_text k) (take l.label-index l.labels)
