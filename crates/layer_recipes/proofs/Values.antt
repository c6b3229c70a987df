-- One dimension more.
use Rattle.std.proofs.Common.{◌≡◌, ℕ, suc, ◌<◌, ◌≤◌, List, length, get_or, drop, Option, Ok, Err, ap, ◌∙◌}
use Rattle.std.proofs.Math.Seq.{drop-cons}
use Rattle.std.proofs.Math.ListN.{drop_of_length-le}
use Rattle.serde_json.specs.Data.{Data}
use Rattle.catalog.specs.declared.catalogue.Catalogue.{Catalogue}
use Rattle.catalog.specs.declared.layer.Dimension.{Dimension}
use Rattle.dimension_key.specs.declared.draft.ThemeDraft.{ThemeDraft}
use Rattle.dimension_key.specs.Draft.{drafted}
use Rattle.layer_recipes.specs.declared.fault.RecipeFault.{RecipeFault}
use Rattle.layer_recipes.specs.Dimensions.{dimensions, given, or_fault}
use Rattle.layer_recipes.specs.Outcome.{Outcome, ◌>>=◌}

-- what one dimension gives
abbrev pub one : Catalogue → ℕ → Option Data → List ℕ → ThemeDraft → Outcome ThemeDraft
one c part object id t = or_fault part (drafted c (given object id) t)

first_of_them : (c : Catalogue) (part : ℕ) (object : Option Data) (ds : List Dimension) (i : ℕ) (d : Dimension) (t : ThemeDraft) → i < length ds → dimensions c part object (drop i ds) t ≡ (one c part object (get_or ds i d).id t >>= dimensions c part object (drop (suc i) ds))
first_of_them c part object ds i d t l = ap (λ s. dimensions c part object s t) (drop-cons ds i d l)

-- the dimension at this place ends the reading
pub dimension_ends : (c : Catalogue) (part : ℕ) (object : Option Data) (ds : List Dimension) (i : ℕ) (d : Dimension) (t : ThemeDraft) (fault : RecipeFault) → i < length ds → one c part object (get_or ds i d).id t ≡ Err fault → dimensions c part object (drop i ds) t ≡ Err fault
dimension_ends c part object ds i d t fault l step = first_of_them c part object ds i d t l ∙ ap (λ r. r >>= dimensions c part object (drop (suc i) ds)) step

-- no dimension is left
pub dimensions_done : (c : Catalogue) (part : ℕ) (object : Option Data) (ds : List Dimension) (i : ℕ) (t : ThemeDraft) → length ds ≤ i → dimensions c part object (drop i ds) t ≡ Ok t
dimensions_done c part object ds i t l = ap (λ s. dimensions c part object s t) (drop_of_length-le ds l)
