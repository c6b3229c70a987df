use Rattle.std.proofs.Common.{◌≡◌, drop}
use Rattle.std.specs.List.{list_any}
use Rattle.catalog.specs.Names.{is_same}
use Rattle.catalog.proofs.valid_dimension.has_same.Given as goal

abbrev pub invariant-loop-dimension : goal.invariant-loop-dimension
invariant-loop-dimension l = list_any (λ x. is_same x.id l.name) (drop l.dimension-index l.before) ≡ list_any (λ x. is_same x.id l.name) l.before
