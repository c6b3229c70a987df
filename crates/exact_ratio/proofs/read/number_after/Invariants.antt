use Rattle.std.proofs.Common.{◌≡◌, ◌+◌, ◌<◌, ◌^◌, drop}
use Rattle.std.specs.Str.Parse.{digits_value_after}
use Rattle.exact_ratio.proofs.read.number_after.Given as goal

abbrev pub invariant-loop-digit : goal.invariant-loop-digit
invariant-loop-digit l =
    record {
      value : digits_value_after 10 l.all (drop l.digit-index l.digits) ≡ digits_value_after 10 l.number l.digits;
      small : l.all < 10 ^ (l.before + l.digit-index);
    }
