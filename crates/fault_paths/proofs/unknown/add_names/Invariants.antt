use Rattle.std.proofs.Common.{◌≡◌, ◌++◌}
use Rattle.serde_json.specs.View.{members_view}
use Rattle.fault_paths.specs.Unknown.{names_lines}
use Rattle.fault_paths.proofs.unknown.add_names.Given as goal

-- with the lines of the members that are left the text comes to all of them
abbrev pub invariant-loop-name : goal.invariant-loop-name
invariant-loop-name l = record {
  rest : l.text.items ++ names_lines l.owner l.outer l.place (members_view l.name-iterator) ≡ l.initial.text.items ++ names_lines l.owner l.outer l.place (members_view l.members.entries);
}
