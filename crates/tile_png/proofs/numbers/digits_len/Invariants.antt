use Rattle.std.proofs.Common.{◌≡◌, ℕ, ◌+◌, ◌<◌, ◌≤◌, get_or, drop}
use Rattle.std.specs.Char.{is_ascii_digit}
use Rattle.std.specs.List.{prefix_len}
use Rattle.tile_png.proofs.numbers.digits_len.Given as goal

-- the bytes so far are digits
abbrev pub invariant-loop-at : goal.invariant-loop-at
invariant-loop-at l = record {
  count : l.at + prefix_len is_ascii_digit (drop l.at l.text) ≡ prefix_len is_ascii_digit l.text;
  digits : (k : ℕ) → k < l.at → (48 ≤ get_or l.text k 0) × (get_or l.text k 0 ≤ 57);
}
