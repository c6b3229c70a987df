-- What the route of a path says of its reading.
use Rattle.std.proofs.Common.{◌≡◌, ℕ, Bool, true, false, cond, ◌==◌, List, [], ◌∷◌, Option, Some, None, refl, sym, ◌∙◌}
use Rattle.std.specs.Prelude.{option_map, option_and_then, bytes_eq, codes}
use Rattle.std.specs.List.{slice_split}
use Rattle.std.specs.Str.{IsUtf8, is_utf8}
use Rattle.std.proofs.lemmas.Str.{IsUtf8-from_is_utf8, is_utf8-from_IsUtf8}
use Rattle.catalog.specs.declared.catalogue.Catalogue.{Catalogue}
use Rattle.wmts_kvp.specs.declared.query.Query.{Query}
use Rattle.wmts_kvp.specs.declared.query.Query.TheVariants.{Capabilities}
use Rattle.wmts_rest.specs.declared.route.Route.{Route}
use Rattle.wmts_rest.specs.declared.route.Route.TheVariants as routes
use Rattle.wmts_rest.specs.Paths.{after, before, front, inside, segments_of, segments_reading, capabilities_path, path_reading}
use Rattle.wmts_rest.specs.Routes.{route_at, tile_or_none}

pub not_utf8 : (path : List ℕ) → ¬ (IsUtf8 path) → is_utf8 path ≡ false
not_utf8 path un = by (is_utf8 path) refl
  where
    by : (b : Bool) → is_utf8 path ≡ b → b ≡ false
    by true e = absurd (un (IsUtf8-from_is_utf8 path e))
    by false e = refl

-- a path that isn't UTF-8 asks for nothing
pub unread : (c : Catalogue) (path : List ℕ) → ¬ (IsUtf8 path) → None ≡ path_reading c path
unfolding path_reading
unread c path un = rw (not_utf8 path un) refl

abbrev pub chosen : Bool → Option (List ℕ) → Option Route
chosen v o = cond v (Some routes.Capabilities) (option_and_then tile_or_none o)

by_capabilities : (v : Bool) (o : Option (List ℕ)) (x : Option Query) → chosen v o ≡ Some routes.Capabilities → Some Capabilities ≡ cond v (Some Capabilities) x
by_capabilities true o x e = refl
by_capabilities false None x e = absurd (cc)
by_capabilities false (Some []) x e = absurd (cc)
by_capabilities false (Some (b ∷ rest)) x e = absurd (cc)

by_tile : (v : Bool) (o : Option (List ℕ)) (x : Option Query) → chosen v o ≡ Some routes.Tile → x ≡ cond v (Some Capabilities) x
by_tile true o x e = absurd (cc)
by_tile false o x e = refl

by_none : (c : Catalogue) (v : Bool) (o : Option (List ℕ)) → chosen v o ≡ None → None ≡ cond v (Some Capabilities) (option_and_then (segments_reading c) (option_map (slice_split (λ b. b == 47)) (option_and_then (before (codes ".ppm")) o)))
by_none c true o e = absurd (cc)
by_none c false None e = refl
by_none c false (Some []) e = refl
by_none c false (Some (b ∷ rest)) e = absurd (cc)

pub capabilities_read : (c : Catalogue) (path : List ℕ) (found : Option Route) → IsUtf8 path → found ≡ route_at path → found ≡ Some routes.Capabilities → Some Capabilities ≡ path_reading c path
unfolding path_reading route_at
capabilities_read c path found text is e =
    rw (is_utf8-from_IsUtf8 path text) (by_capabilities (bytes_eq path capabilities_path) (after front path) _ (sym is ∙ e))

pub tile_read : (c : Catalogue) (path : List ℕ) (found : Option Route) → IsUtf8 path → found ≡ route_at path → found ≡ Some routes.Tile → option_and_then (segments_reading c) (segments_of path) ≡ path_reading c path
unfolding path_reading route_at
tile_read c path found text is e =
    rw (is_utf8-from_IsUtf8 path text) (by_tile (bytes_eq path capabilities_path) (after front path) _ (sym is ∙ e))

pub none_read : (c : Catalogue) (path : List ℕ) (found : Option Route) → IsUtf8 path → found ≡ route_at path → found ≡ None → None ≡ path_reading c path
unfolding path_reading route_at inside
none_read c path found text is e =
    rw (is_utf8-from_IsUtf8 path text) (by_none c (bytes_eq path capabilities_path) (after front path) (sym is ∙ e))
