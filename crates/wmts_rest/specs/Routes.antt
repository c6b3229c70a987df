-- The routes of the RESTful requests, and the one that a path takes.
use Rattle.std.specs.Prelude.{ℕ, if◌then◌else◌, List, [], ◌∷◌, ◌++◌, Option, Some, None, option_and_then, codes, bytes_eq}
use Rattle.matchit.specs.Rows.{RowsOf, catch_all_token}
use Rattle.matchit.specs.Router.{RouteOf}
use Rattle.wmts_rest.specs.declared.route.Route.{Route}
use Rattle.wmts_rest.specs.declared.route.Route.TheVariants.{Capabilities, Tile}
use Rattle.wmts_rest.specs.Paths.{front, capabilities_path, after}

-- the route of the capabilities, which has no parameter
abbrev pub capabilities_route : RouteOf Route
capabilities_route =
    record { pattern = capabilities_path; text = capabilities_path; names = []; value = Capabilities }

-- the route of the tiles: all that follows the front is one parameter
abbrev pub tile_route : RouteOf Route
tile_route =
    record { pattern = front ++ catch_all_token ∷ []; text = front ++ codes "{*segments}"; names = (13, 21) ∷ []; value = Tile }

-- the routes in the router's order
abbrev pub routes : RowsOf (RouteOf Route)
routes = (capabilities_route.pattern, capabilities_route) ∷ (tile_route.pattern, tile_route) ∷ []

-- something follows the front
abbrev pub tile_or_none : List ℕ → Option Route
tile_or_none [] = None
tile_or_none (b ∷ rest) = Some Tile

-- the capabilities at their path, and else a tile where something follows the front
unfoldable pub route_at : List ℕ → Option Route
route_at path = if bytes_eq path capabilities_path then Some Capabilities else option_and_then tile_or_none (after front path)
