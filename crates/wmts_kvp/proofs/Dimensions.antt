-- One dimension more.
use Rattle.std.proofs.Common.{◌≡◌, ℕ, suc, ◌<◌, ◌≤◌, List, length, get_or, drop, Ok, Err, ap, ◌∙◌}
use Rattle.std.proofs.Math.Seq.{drop-cons}
use Rattle.std.proofs.Math.ListN.{drop_of_length-le}
use Rattle.catalog.specs.declared.catalogue.Catalogue.{Catalogue}
use Rattle.catalog.specs.declared.layer.Dimension.{Dimension}
use Rattle.dimension_key.specs.declared.draft.ThemeDraft.{ThemeDraft}
use Rattle.dimension_key.specs.Draft.{drafted}
use Rattle.wmts_kvp.specs.declared.query.Query.{Query}
use Rattle.wmts_kvp.specs.Pairs.{value_of}
use Rattle.wmts_kvp.specs.Rows.{Row, or_refusal, dimensions, ◌>>=◌}

-- what the row of one dimension gives
abbrev pub one : Catalogue → List (List ℕ × List ℕ) → List ℕ → ThemeDraft → Row ThemeDraft
one c pairs name t = or_refusal name (drafted c (value_of pairs name) t)

first_row : (c : Catalogue) (pairs : List (List ℕ × List ℕ)) (ds : List Dimension) (i : ℕ) (d : Dimension) (t : ThemeDraft) → i < length ds → dimensions c pairs (drop i ds) t ≡ (one c pairs (get_or ds i d).id t >>= dimensions c pairs (drop (suc i) ds))
first_row c pairs ds i d t l = ap (λ s. dimensions c pairs s t) (drop-cons ds i d l)

-- the dimension at this place ends the reading
pub dimension_ends : (c : Catalogue) (pairs : List (List ℕ × List ℕ)) (ds : List Dimension) (i : ℕ) (d : Dimension) (t : ThemeDraft) (q : Query) → i < length ds → one c pairs (get_or ds i d).id t ≡ Err q → dimensions c pairs (drop i ds) t ≡ Err q
dimension_ends c pairs ds i d t q l step = first_row c pairs ds i d t l ∙ ap (λ r. r >>= dimensions c pairs (drop (suc i) ds)) step

-- no dimension is left
pub dimensions_done : (c : Catalogue) (pairs : List (List ℕ × List ℕ)) (ds : List Dimension) (i : ℕ) (t : ThemeDraft) → length ds ≤ i → dimensions c pairs (drop i ds) t ≡ Ok t
dimensions_done c pairs ds i t l = ap (λ s. dimensions c pairs s t) (drop_of_length-le ds l)
