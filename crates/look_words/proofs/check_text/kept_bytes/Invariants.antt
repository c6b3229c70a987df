use Rattle.std.proofs.Common.{◌≡◌, ◌*◌, ◌≤◌, take}
use Rattle.look_words.specs.Texts.{kept_bytes}
use Rattle.look_words.proofs.check_text.kept_bytes.Given as goal

-- the bytes of those before this one, each of which has fewer than 2^32
abbrev pub invariant-loop-one : goal.invariant-loop-one
invariant-loop-one l = record {
  bytes : l.bytes ≡ kept_bytes (take l.one-index l.kept);
  most : l.bytes ≤ l.one-index * 4294967295;
}
