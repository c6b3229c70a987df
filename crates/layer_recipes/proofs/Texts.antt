-- What the text of a value names.
use Rattle.std.proofs.Common.{◌≡◌, ℕ, List, Option, Some, sym, ap, ◌∙◌, Bor}
use Rattle.std.specs.Prelude.{option_map, option_and_then}

-- the value is this text
pub through : {A : Type 0} (f : List ℕ → Option A) (read : Option (Bor (List ℕ))) (value : Option (List ℕ)) (text : Bor (List ℕ)) (bytes : List ℕ) (found : Option A) → option_map (λ s. s.now) read ≡ value → read ≡ Some text → bytes ≡ text.now → found ≡ f bytes → found ≡ option_and_then f value
through f read value text bytes found shown is same named =
    named ∙ ap f same ∙ ap (option_and_then f) (sym (ap (option_map (λ s. s.now)) is) ∙ shown)
