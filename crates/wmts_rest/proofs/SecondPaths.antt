-- The reading of a picture's path, by whether its bytes are UTF-8.
use Rattle.std.proofs.Common.{◌≡◌, ℕ, List, Option, None, refl}
use Rattle.std.specs.Prelude.{option_and_then}
use Rattle.std.specs.Str.{IsUtf8, is_utf8}
use Rattle.std.proofs.lemmas.Str.{is_utf8-from_IsUtf8}
use Rattle.catalog.specs.declared.catalogue.Catalogue.{Catalogue}
use Rattle.wmts_kvp.specs.declared.query.Query.{Query}
use Rattle.wmts_rest.specs.Paths.{picture_reading, picture_segments_of, segments_reading}
use Rattle.wmts_rest.proofs.Paths.{not_utf8}

pub unread : (c : Catalogue) (path : List ℕ) → ¬ (IsUtf8 path) → None ≡ picture_reading c path
unfolding picture_reading
unread c path un = rw (not_utf8 path un) refl

pub read : (c : Catalogue) (path : List ℕ) → IsUtf8 path → option_and_then (segments_reading c) (picture_segments_of path) ≡ picture_reading c path
unfolding picture_reading
read c path text = rw (is_utf8-from_IsUtf8 path text) refl
