-- The header of a body's type.
use Rattle.std.proofs.Common.{◌≡◌, ℕ, ◌<◌, List, [], ◌∷◌, ◌++◌, length, ap, ◌∙◌, arith, codes, append_assoc}
use Rattle.tile_requests.specs.Response.{type_header}

-- three parts that are added one after the other
three_added : (start a b d one two three : List ℕ) → one ≡ start ++ a → two ≡ one ++ b → three ≡ two ++ d → three ≡ start ++ ((a ++ b) ++ d)
three_added start a b d one two three e f g =
    g ∙ ap (λ (xs : List ℕ). xs ++ d) (f ∙ ap (λ (xs : List ℕ). xs ++ b) e ∙ append_assoc start a b) ∙ append_assoc start (a ++ b) d

pub type_header_added : (media_type body start named typed ended : List ℕ) → 0 < length body → named ≡ start ++ codes "Content-Type: " → typed ≡ named ++ media_type → ended ≡ typed ++ codes "\r\n"
    → ended ≡ start ++ type_header media_type body
type_header_added media_type [] start named typed ended some e f g = absurd (omega arith)
type_header_added media_type (b ∷ bs) start named typed ended some e f g = three_added start (codes "Content-Type: ") media_type (codes "\r\n") named typed ended e f g
