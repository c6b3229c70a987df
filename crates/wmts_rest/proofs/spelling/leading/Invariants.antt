use Rattle.std.proofs.Common.{◌≡◌, ◌∷◌, ◌++◌, map, drop}
use Rattle.std.specs.Prelude.{codes}
use Rattle.wmts_rest.proofs.spelling.leading.Given as goal

-- the names so far and those of the dimensions that are left
abbrev pub invariant-loop-dimension : goal.invariant-loop-dimension
invariant-loop-dimension l =
    l.names.items ++ map (λ d. d.id) (drop l.dimension-index l.dims) ≡ codes "layer" ∷ codes "style" ∷ map (λ d. d.id) l.dims
