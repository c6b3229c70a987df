-- What is seen with one part more below the others.
use Rattle.std.proofs.Common.{◌≡◌, ℕ, ◌&&◌, Bool, true, false, List, [], ◌∷◌, ◌++◌, refl, sym, ap, ◌∙◌}
use Rattle.std.specs.Prelude.{if◌then◌else◌}
use Rattle.std.proofs.Math.Bool.{and_assoc, and-true}
use Rattle.raster_field.specs.declared.colour.Colour.{Colour}
use Rattle.layer_recipes.specs.Composite.{Layered, is_same, seen_through}
use Rattle.layer_recipes.specs.Overlaid.{are_keys, laid}

below_one : (b : Bool) (below above : Colour) → (if b then below else above) ≡ laid (b && true) below above
below_one true below above = refl
below_one false below above = refl

below_more : (b a : Bool) (s below t above : Colour) → s ≡ laid a below t → (if b then s else above) ≡ laid (b && a) below (if b then t else above)
below_more true a s below t above e = e
below_more false a s below t above e = refl

pub seen_more : (ls : List Layered) (l : Layered) (x y : ℕ) → seen_through (ls ++ l ∷ []) x y ≡ laid (are_keys ls x y) (l.colour x y) (seen_through ls x y)
seen_more [] l x y = refl
seen_more (k ∷ []) l x y = below_one (is_same (k.colour x y) k.key) (l.colour x y) (k.colour x y)
seen_more (k ∷ m ∷ ls) l x y =
    below_more (is_same (k.colour x y) k.key) (are_keys (m ∷ ls) x y) (seen_through ((m ∷ ls) ++ l ∷ []) x y) (l.colour x y) (seen_through (m ∷ ls) x y) (k.colour x y) (seen_more (m ∷ ls) l x y)

pub keys_more : (ls : List Layered) (l : Layered) (x y : ℕ) → are_keys (ls ++ l ∷ []) x y ≡ (are_keys ls x y && is_same (l.colour x y) l.key)
keys_more [] l x y = and-true (is_same (l.colour x y) l.key)
keys_more (k ∷ ls) l x y =
    ap (λ (b : Bool). is_same (k.colour x y) k.key && b) (keys_more ls l x y) ∙ sym (and_assoc (is_same (k.colour x y) k.key) (are_keys ls x y) (is_same (l.colour x y) l.key))
