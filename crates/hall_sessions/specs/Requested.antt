-- What a request comes to over a hall.
-- A tie between the code and its definitions: the promise can be read without it.
use Rattle.std.specs.Prelude.{◌≡◌, true}
use Rattle.catalog.specs.declared.catalogue.Catalogue.{Catalogue}
use Rattle.cache_hall.specs.Turned.{GainsTurns, HallPass}
use Rattle.source_render.specs.Renders.{Renders}
use Rattle.tile_requests.specs.declared.outcome.Outcome.{Outcome}
use Rattle.tile_requests.specs.declared.request.Request.{Request}
use Rattle.tile_requests.specs.Served.{ServesRequest as ServesRequestBy}

-- a request was served by a pass
abbrev pub ServesRequest : Catalogue → Renders → Renders → Request → HallPass → HallPass → Outcome → Type 0
ServesRequest c renders_before renders_after r before after o = ServesRequestBy (GainsTurns c) c (before.told ≡ true) before.book renders_before renders_after r before after o
