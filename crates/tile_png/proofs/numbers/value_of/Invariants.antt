use Rattle.std.proofs.Common.{◌≡◌, ◌<◌, ◌^◌, drop}
use Rattle.std.specs.Str.Parse.{digits_value_after}
use Rattle.tile_png.proofs.numbers.value_of.Given as goal

-- the value so far goes on to that of all digits
abbrev pub invariant-loop-digit : goal.invariant-loop-digit
invariant-loop-digit l = record {
  whole : digits_value_after 10 l.value (drop l.digit-index l.digits) ≡ digits_value_after 10 0 l.digits;
  small : l.value < 10 ^ l.digit-index;
}
