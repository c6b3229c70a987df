use Rattle.std.proofs.Common.{◌≡◌, ◌+◌, ◌*◌, ◌<◌, ◌^◌}
use Rattle.window_request.proofs.rounding.rounded.Given as goal

abbrev pub invariant-places : goal.invariant-places
invariant-places l = record {
  small : l.rest < l.d;
  units : l.units < 10 ^ (18 + l.counter);
  value : l.n * 10 ^ l.counter ≡ l.units * l.d + l.rest;
}
