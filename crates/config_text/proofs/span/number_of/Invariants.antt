use Rattle.std.proofs.Common.{◌≡◌, ◌+◌, ◌<◌, ◌^◌, drop}
use Rattle.std.specs.Str.Parse.{digits_value_after}
use Rattle.config_text.proofs.span.number_of.Given as goal

abbrev pub invariant-loop-digit : goal.invariant-loop-digit
invariant-loop-digit l =
    record {
      value : digits_value_after 10 l.all (drop l.digit-index l.digits) ≡ digits_value_after 10 0 l.digits;
      small : l.all < 10 ^ (0 + l.digit-index);
    }
