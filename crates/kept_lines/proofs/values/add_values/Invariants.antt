use Rattle.std.proofs.Common.{◌≡◌, ◌++◌, drop}
use Rattle.std.specs.List.{join_with_byte}
use Rattle.kept_lines.specs.Lines.{value_texts}
use Rattle.kept_lines.proofs.Joined.{joined_rest}
use Rattle.kept_lines.proofs.values.add_values.Given as goal

abbrev pub invariant-loop-place : goal.invariant-loop-place
invariant-loop-place l = record {
  rest : l.text.items ++ joined_rest l.place (value_texts (drop l.place l.dimensions) (drop l.place l.numbers)) ≡ l.initial.text.items ++ join_with_byte 44 (value_texts l.dimensions l.numbers);
}
