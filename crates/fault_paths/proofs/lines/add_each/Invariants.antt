use Rattle.std.proofs.Common.{◌≡◌, ◌++◌, drop, map}
use Rattle.serde_json.specs.View.{view}
use Rattle.fault_paths.specs.Paths.{each_line}
use Rattle.fault_paths.proofs.lines.add_each.Given as goal

-- with the lines of the objects from this one on the text comes to all of them
abbrev pub invariant-loop-outer : goal.invariant-loop-outer
invariant-loop-outer l = record {
  rest : l.text.items ++ each_line l.sought l.name l.outer (drop l.outer (map view l.objects)) ≡ l.initial.text.items ++ each_line l.sought l.name 0 (map view l.objects);
}
