use Rattle.std.proofs.Common.{◌≡◌, ◌++◌, flat_map, take}
use Rattle.metrics_text.specs.Exposition.{ended, sample_line}
use Rattle.metrics_text.proofs.lines.push_sample_lines.Given as goal

abbrev pub invariant-loop-sample : goal.invariant-loop-sample
invariant-loop-sample l = l.text.items ≡ l.fn.text.items ++ flat_map (λ s. ended (sample_line l.name s)) (take l.sample-index l.samples)
