use Rattle.std.proofs.Common.{sym, refl}
use Rattle.wmts_kvp.proofs.Tiles.{is_tile}
use Rattle.wmts_kvp.proofs.query.address_in.Goals as goal

pub returns-clause-tile : goal.returns-clause-tile
returns-clause-tile c =
    is_tile c.args.catalogue.now _ c.args.layer c.args.theme.style c.rows_of.result c.cols_of.result
    (sym c.requires.layer) refl
    c.in-Ok.ensures.served c.requires.style c.requires.values
    c.in-Ok-in_range.ensures.below c.rows_of.ensures
    c.in-Ok-in_range-2.ensures.below c.cols_of.ensures
