-- Lists of values.
use Rattle.std.proofs.Common.{◌≡◌, List, [], ◌∷◌, refl, ap}
use Rattle.serde_json.specs.Data.{Data}
use Rattle.serde_json.specs.View.{items_of}
use Rattle.json_forms.specs.Forms.{list_of}

pub list_items : (ds : List Data) → list_of (items_of ds) ≡ ds
list_items [] = refl
list_items (d ∷ ds) = ap (λ (es : List Data). d ∷ es) (list_items ds)
