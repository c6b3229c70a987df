use Rattle.std.proofs.Common.{◌≡◌, drop}
use Rattle.window_request.specs.Requests.{dimension_in}
use Rattle.window_request.proofs.values.dimension_in.Given as goal

abbrev pub invariant-loop-dimension : goal.invariant-loop-dimension
invariant-loop-dimension l = dimension_in (drop l.dimension-index l.dimensions) l.name ≡ dimension_in l.dimensions l.name
