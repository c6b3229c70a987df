use Rattle.std.proofs.Common.{◌<◌, ◌-◌, ◌^◌}
use Rattle.window_request.specs.Decimals.{PadsSoFar}
use Rattle.window_request.proofs.decimal.pad.Given as goal

abbrev pub invariant-digits : goal.invariant-digits
invariant-digits l = record {
  small : l.rest < 10 ^ (l.count - l.i);
  pads : PadsSoFar l.fn.into.items l.number l.i (10 ^ (l.count - l.i)) l.rest l.into.items;
}
