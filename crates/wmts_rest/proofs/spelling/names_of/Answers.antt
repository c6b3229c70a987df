use Rattle.std.proofs.Common.{◌∷◌, map, refl}
use Rattle.std.specs.Prelude.{codes}
use Rattle.wmts_rest.proofs.Pairs.{four_more}
use Rattle.wmts_rest.proofs.spelling.names_of.Goals as goal

pub returns : goal.returns
returns c =
    rw (
      c.in_ok-push-4.ensures.items,
      c.in_ok-push-3.ensures.items,
      c.in_ok-push-2.ensures.items,
      c.in_ok-push.ensures.items,
      c.in_ok-new.ensures,
      c.in_ok-new-2.ensures,
      c.in_ok-new-3.ensures,
      c.in_ok-new-4.ensures,
      c.in_ok-names.ensures,
    )
    (four_more
    (codes "layer" ∷ codes "style" ∷ map (λ d. d.id) c.args.dims.now)
    _
    (codes "TileMatrixSet")
    (codes "TileMatrix")
    (codes "TileRow")
    (codes "TileCol")
    refl)
