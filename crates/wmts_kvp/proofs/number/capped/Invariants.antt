use Rattle.std.proofs.Common.{◌≡◌, ◌^◌, min, drop, take}
use Rattle.std.specs.Str.Parse.{AllDigits, digits_value}
use Rattle.wmts_kvp.proofs.number.capped.Given as goal

-- the number of the digits so far, or the greatest one
abbrev pub invariant-loop-digit : goal.invariant-loop-digit
invariant-loop-digit l = record {
  value : l.value ≡ min (digits_value 10 (take l.digit-index l.digits)) (2 ^ 32);
  left : AllDigits 10 (drop l.digit-index l.digits);
}
