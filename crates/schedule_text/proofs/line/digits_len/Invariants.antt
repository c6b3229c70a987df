use Rattle.std.proofs.Common.{◌≡◌, ℕ, ◌<◌, ◌≤◌, ◌+◌, drop, get_or}
use Rattle.std.specs.Char.{is_ascii_digit}
use Rattle.std.specs.List.{prefix_len}
use Rattle.schedule_text.proofs.line.digits_len.Given as goal

abbrev pub invariant-loop-place : goal.invariant-loop-place
invariant-loop-place l = record {
  rest : l.place + prefix_len is_ascii_digit (drop l.place l.text) ≡ prefix_len is_ascii_digit l.text;
  digits : (k : ℕ) → k < l.place → (48 ≤ get_or l.text k 0) × (get_or l.text k 0 ≤ 57);
}
