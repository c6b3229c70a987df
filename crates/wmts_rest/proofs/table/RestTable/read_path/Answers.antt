use Rattle.std.proofs.Common.{sym, ap, ◌∙◌, Some}
use Rattle.wmts_rest.specs.Routes.{route_at}
use Rattle.wmts_rest.proofs.Paths.{unread, capabilities_read, tile_read, none_read}
use Rattle.wmts_rest.proofs.table.RestTable.read_path.Goals as goal

pub returns-in_default-clause-reading : goal.returns-in_default-clause-reading
returns-in_default-clause-reading c = unread c.args.catalogue.now c.args.path.now c.in_default.ensures.cases.0

pub returns-in-Some-Capabilities-clause-reading : goal.returns-in-Some-Capabilities-clause-reading
returns-in-Some-Capabilities-clause-reading c =
    let told = c.in-Ok.ensures.cases in
    capabilities_read c.args.catalogue.now c.args.path.now c.route_at.result told.1 (c.route_at.ensures ∙ ap route_at told.0) (c.in-Some-Capabilities.is ∙ ap (λ r. Some r) c.in-Some-Capabilities.field-0-is)

pub returns-in-Some-Tile-clause-reading : goal.returns-in-Some-Tile-clause-reading
returns-in-Some-Tile-clause-reading c =
    let told = c.in-Ok.ensures.cases in
    rw (sym (tile_read c.args.catalogue.now c.args.path.now c.route_at.result told.1 (c.route_at.ensures ∙ ap route_at told.0) (c.in-Some-Tile.is ∙ ap (λ r. Some r) c.in-Some-Tile.field-0-is))) c.read_tile.ensures.reading

pub returns-in-None-clause-reading : goal.returns-in-None-clause-reading
returns-in-None-clause-reading c =
    let told = c.in-Ok.ensures.cases in
    none_read c.args.catalogue.now c.args.path.now c.route_at.result told.1 (c.route_at.ensures ∙ ap route_at told.0) c.in-None.is
