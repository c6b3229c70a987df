use Rattle.std.proofs.Common.{◌≡◌, ◌<◌, ◌^◌, drop}
use Rattle.std.specs.Str.Parse.{digits_value_after}
use Rattle.ppm_reading.proofs.numbers.number_of.Given as goal

abbrev pub invariant-loop-digit : goal.invariant-loop-digit
invariant-loop-digit l = record {
  value : digits_value_after 10 l.number (drop l.digit-index l.digits) ≡ digits_value_after 10 0 l.digits;
  small : l.number < 10 ^ l.digit-index;
}
